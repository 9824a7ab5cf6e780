-- What a turn reads follows what stood at the slice's start.
use Rattle.std.proofs.Common.{◌≡◌, ℕ, ◌+◌, ◌-◌, ◌≤◌, List, ◌++◌, rules, length, take, drop, sym, ap, ◌∙◌, subst, le_refl, drop_at, length-take-le}
use Rattle.std.proofs.lemmas.Slice.{take-put_mid_below}
use Rattle.std.specs.Io.KnownBytes.{Consumes}
use Rattle.std.proofs.KnownBytes.{Consumes-trans}
use borrow.Rule.Slice.PartMut.{put_mid, post_of}
use lib.Seq.{take-add, take-append-le}
use Rattle.desk.proofs.fill.fill.Goals as goal

-- after a read of n bytes into the slice from a on, which then holds ys
take_read : (a k n : ℕ) (xs ys : List ℕ) → a ≤ length xs → n ≤ length ys → take a xs ++ take n ys ≡ take (a + n) (put_mid a k xs ys)
take_read a k n xs ys within fits =
    let whole = put_mid a k xs ys in
    let front = take-put_mid_below a k xs ys a (le_refl a) within in
    let after = drop_at (take a xs) (ys ++ post_of a k xs) a (length-take-le a xs within) in
    let back = ap (take n) after ∙ take-append-le n ys (post_of a k xs) fits in
    sym (take-add a n whole ∙ ap (λ l. l ++ take n (drop a whole)) front ∙ ap (λ l. take a xs ++ l) back)

pub loop-filled-preserved : goal.loop-filled-preserved
loop-filled-preserved g c =
    let (same, within, consumed) = c.loop-filled.invariant in
    let read = c.in_ok-read.ensures in
    let joined = take_read _ (length c.loop-filled.bytes - c.loop-filled.filled) _ _ c.read.new.buf within read.bound.0 in
    (search rules, search rules, subst (Consumes _ _) joined (Consumes-trans _ _ _ _ _ consumed read.bytes.0))
