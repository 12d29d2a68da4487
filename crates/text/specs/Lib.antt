-- The text of a job, in the order of document 01: bytes and lines, numbers, lists, and lines by their template.
-- These are definitions, to be believed.
pub mod Bytes
pub mod Number
pub mod List
pub mod Template
-- Which values a template can write, and that they read back, for a reader.
pub mod Written
