-- Definitions, to be believed: the shares of a list, and the replies of calls with a share.
pub mod Shares
pub mod Replies
-- Definitions that the theorems on them use.
pub mod Account
