-- `Put` has the laws of writing a text, for callers too, and `Reply` those of a reply's text. The others are what the loops rest on: `Digits` and `Fill`
-- the digits of a number, `Lines` lines and lists; `Short` says how long a text can be.
pub mod Put
pub mod Digits
pub mod Fill
pub mod Lines
pub mod Short
pub mod Reply
