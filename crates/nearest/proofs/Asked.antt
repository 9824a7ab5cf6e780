-- The question's contract from its first clause.
use Prim.Native.Nat.{ℕ}
use mathlib.Core.Path.{◌≡◌, sym, subst, ◌∙◌}
use mathlib.Core.List.{List}
use lib.ListN.{drop}
use Rattle.paper.specs.declared.Counts.{Counts}
use Rattle.paper.specs.Served.{served, refused}
use Rattle.paper.specs.Sheet.{map_of, offices_in, offices_of}
use Rattle.paper.specs.Layout.{Bytes, layout}
use Rattle.paper.specs.Verdict.{Accepted}
use Rattle.paper.specs.Reply.{Reply, reply_on, reply, Valid, ListsNearest, RefinesThriftily}
use Rattle.paper.proofs.Reply.{reply_answered}
use Rattle.sheet.specs.Laid.{laid_of, list_from}
use Rattle.sheet.proofs.Room.{laid_counts, laid_number}
use Rattle.sheet.proofs.Grounds.{list_offices, sectioned}
use Rattle.nearest.proofs.Replies.{early, reply_badly_laid}

-- over a sheet with nothing due in its layout, the reply is that over its map and its list
pub laid_reply : (s g l : List ℕ) (c : Counts) (q k d : ℕ) (a w : List ℕ) → served c ≡ laid_of s → g ≡ s → l ≡ drop (list_from c) s
    → reply_on 0 (map_of g) (offices_in l) q k d a w ≡ reply s q k d a w
unfolding reply
laid_reply s g l c q k d a w h p f = let (e, n) = laid_counts s c h in rw (p, f, list_offices s c (sectioned s c e n), e)

-- refused by the layout: both slices untouched
pub laid_refused : (s : List ℕ) (q k d x : ℕ) (a w : List ℕ) → refused x ≡ laid_of s → early x a w ≡ reply s q k d a w
unfolding reply
laid_refused s q k d x a w e = let (n, is, l) = laid_number s x e in rw is (sym (reply_badly_laid (layout s) (map_of s) (offices_of s) q k d a w n l))

-- the clauses about an accepted sheet follow from the clause of the rules
module _ (s : List ℕ) (q k d : ℕ) (a w : List ℕ) (bytes : Bytes s) (r : Reply) (rules : r ≡ reply s q k d a w) where
  pub lists_nearest : Accepted s → Valid s q k d a w → ListsNearest s q k d a r
  lists_nearest A g = subst (ListsNearest s q k d a) (sym rules) (reply_answered s q k d a w bytes A g).nearest

  pub refines_thriftily : Accepted s → Valid s q k d a w → RefinesThriftily s q k d r
  refines_thriftily A g = subst (RefinesThriftily s q k d) (sym rules) (reply_answered s q k d a w bytes A g).thrifty

-- any two outcomes that the contract allows are equal
pub question_one : (s : List ℕ) (q k d : ℕ) (a w : List ℕ) (r r' : Reply) → r ≡ reply s q k d a w → r' ≡ reply s q k d a w → r ≡ r'
question_one s q k d a w r r' e e' = e ∙ sym e'
