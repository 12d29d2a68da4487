-- Laws: the number that refuses a share, test by test. Assumes nothing.
use Rattle.std.specs.Prelude.{◌≡◌, true, false, List, ℕ, ◌-◌, ◌≤◌, ◌<◌, leb, length, get_or}
use Rattle.std.proofs.Common.{arith}
use borrow.Author.Tests.{le-leb, lt-leb, lt-ltb, le-ltb}
use Rattle.shares.specs.Shares.{Share, sum, max_callers, each_within_of, shares_fit_of}
use Rattle.share_marks.specs.Fit.{share_number_of}

module _ (shares marks main : List ℕ) (caller : ℕ) where
  abbrev share : Share
  share = record { shares = shares; marks = marks; caller = caller }

  -- ---- 25

  pub no_callers : length shares < 1 → false ≡ shares_fit_of share main
  unfolding shares_fit_of
  no_callers h = rw (lt-leb 1 (length shares) h)

  module _ (some : 1 ≤ length shares) where
    pub many_callers : max_callers < length shares → false ≡ shares_fit_of share main
    unfolding shares_fit_of
    many_callers h = rw (le-leb 1 (length shares) some, lt-leb (length shares) 8 h)

    module _ (few : length shares ≤ max_callers) where
      pub list_short : length main < sum shares → false ≡ shares_fit_of share main
      unfolding shares_fit_of
      list_short h = rw (le-leb 1 (length shares) some, le-leb (length shares) 8 few, lt-leb (sum shares) (length main) h)

      module _ {total : ℕ} (is : total ≡ sum shares) (fits : total ≤ length main) where
        all_fit : sum shares ≤ length main
        all_fit = omega (arith, is, fits)

        pub stretch_short : each_within_of shares marks ≡ false → false ≡ shares_fit_of share main
        unfolding shares_fit_of
        stretch_short e = rw (le-leb 1 (length shares) some, le-leb (length shares) 8 few, le-leb (sum shares) (length main) all_fit, e)

        pub by_common : each_within_of shares marks ≡ true → leb (get_or marks (length shares) 0) (length main - total) ≡ shares_fit_of share main
        unfolding shares_fit_of
        by_common e = rw (le-leb 1 (length shares) some, le-leb (length shares) 8 few, le-leb (sum shares) (length main) all_fit, e, is)

  -- ---- 13, 25 and 26

  pub by_marks : length marks ≤ length shares → 13 ≡ share_number_of share main
  unfolding share_number_of
  by_marks h = rw (le-ltb (length shares) (length marks) h)

  module _ (enough : length shares < length marks) where
    pub by_shares : shares_fit_of share main ≡ false → 25 ≡ share_number_of share main
    unfolding share_number_of
    by_shares e = rw (lt-ltb (length shares) (length marks) enough, e)

    pub by_caller : shares_fit_of share main ≡ true → length shares ≤ caller → 26 ≡ share_number_of share main
    unfolding share_number_of
    by_caller e h = rw (lt-ltb (length shares) (length marks) enough, e, le-ltb caller (length shares) h)

    pub by_none : shares_fit_of share main ≡ true → caller < length shares → 0 ≡ share_number_of share main
    unfolding share_number_of
    by_none e h = rw (lt-ltb (length shares) (length marks) enough, e, lt-ltb caller (length shares) h)
