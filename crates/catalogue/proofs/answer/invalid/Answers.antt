-- `catalogue::answer::invalid` meets its contract: 7, 8 and 9 by the words that the bytes make, and 9 for the counts.
use native.Mathlib.Omega.{arith}
use mathlib.Core.Path.{sym}
use Rattle.std.proofs.lemmas.Result.{err_from_is_err_and}
use Rattle.paper.specs.Sizes.{long_bytes}
use Rattle.paper.proofs.Words.{words_size}
use Rattle.paper.proofs.Numbers.{number_some}
use Rattle.paper.proofs.Host.{invalid-words, invalid_counts, invalid_none}
use Rattle.catalogue.proofs.answer.invalid.Goals as goal

pub returns-in_err-invalid : goal.returns-in_err-invalid
returns-in_err-invalid c m o p n =
    let q = err_from_is_err_and c.from_residual.result c.from_residual.ensures.1 in
    rw (q.1, q.2) (sym (invalid-words m o _ _ _ _ _ _ _ (sym (c.in_err-invalid.ensures m o _ _ p n (words_size long_bytes _ _) (words_size long_bytes _ _))) (λ zero. absurd (omega (arith, number_some c.in_err-invalid.field-0.0, zero)))))

pub returns-then-counts-lt-COUNTS_BYTES : goal.returns-then-counts-lt-COUNTS_BYTES
returns-then-counts-lt-COUNTS_BYTES c m o p n = sym (invalid_counts m o _ _ _ _ _ _ (sym (c.in_ok-invalid.ensures m o _ _ p n (words_size long_bytes _ _) (words_size long_bytes _ _))) c.if-counts-lt-COUNTS_BYTES.true)

pub returns : goal.returns
returns c m o p n = sym (invalid_none m o _ _ _ _ _ _ (sym (c.in_ok-invalid.ensures m o _ _ p n (words_size long_bytes _ _) (words_size long_bytes _ _))) c.if-counts-lt-COUNTS_BYTES.false)
