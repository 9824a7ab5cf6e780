-- The check after some columns, what a further column adds, and how it ends.
use Prim.Native.Nat.{ℕ, ◌+◌, ◌*◌, ◌≤◌, ◌<◌, min}
use native.Mathlib.Omega.{arith}
use mathlib.Core.Path.{◌≡◌, refl, sym, ap, subst, ◌∙◌}
use mathlib.Core.List.{List}
use lib.ListN.{length, get_or}
use Rattle.paper.specs.Map.{Map}
use Rattle.paper.specs.Road.{Road, IsD}
use Rattle.paper.specs.Ground.{SameGround}
use Rattle.paper.specs.Slice.{Untouched, cleared}
use Rattle.paper.specs.Verdict.{fault, area, CheckedOn, cut_off, judged}
use Rattle.paper.proofs.LaidOut.{LaidOut}
use Rattle.paper.proofs.Cleared.{cleared-same}
use Rattle.paper.proofs.Count.{below_suc}
use Rattle.paper.proofs.Road.{distance_one}
use Rattle.truth.specs.Table.{Stored, marked_below}
use Rattle.truth.specs.Faults.{Fault, Looked, number_of_check}
use Rattle.truth.specs.Pairs.{by_column}
use Rattle.truth.proofs.Marking.{Marks, marks_same, marks_none, marks_more}
use Rattle.truth.proofs.Finding.{Found, found_none, found-more, looked_down, number_is}

-- d holds the road distances to the first k places
abbrev pub Columns : Map → ℕ → (ℕ → ℕ → ℕ) → Type 0
Columns m k d = (u v : ℕ) → u < m.places → v < k → IsD m u v (d u v)

-- the table that stands in a slice
abbrev pub table_of : ℕ → List ℕ → ℕ → ℕ → ℕ
table_of n l u v = get_or l (u * n + v) 0

-- k columns are stored and judged: the first fault is the same over every table of the distances
pub record Progress (m : Map) (n k : ℕ) (before distances marks : List ℕ) (f : Fault) : Type 0 where
  pub size : length distances ≡ length before
  pub rest : Untouched (n * n) before distances
  pub columns : Columns m k (table_of n distances)
  pub found : (d : ℕ → ℕ → ℕ) → Columns m k d → Found m d k f
  pub marked : Marks m k f.place marks

pub progress_none : (m : Map) (n : ℕ) (l marks : List ℕ) (f : Fault) → f.place ≡ m.places → m.blocks ≤ length marks → ((b : ℕ) → get_or marks b 0 ≡ 0)
    → Progress m n 0 l l marks f
progress_none m n l marks f e p z = record {
  size = refl;
  rest = λ i p. refl;
  columns = λ u v q r. absurd (omega arith);
  found = λ d D. found_none m d f e;
  marked = marks_none m f.place marks p z;
}

-- column k is stored in the table, and judged on the ground g
module _ {m g : Map} (L : LaidOut m) (G : SameGround m g) (n k : ℕ) (before distances distances' marks marks' column : List ℕ) (f f' : Fault) (size : n ≡ m.places) (more : k < n)
    (P : Progress m n k before distances marks f)
    (near : (u : ℕ) → u < n → IsD m u k (get_or column u 0))
    (S : Stored n k column distances distances')
    (K : Looked (λ u. fault m (by_column column) u k) f f')
    (M : marks' ≡ marked_below g k (min (f'.place + 1) f.place) marks) where
  columns-more : Columns m (k + 1) (table_of n distances')
  columns-more u v p q =
      below_suc (IsD m u v (table_of n distances' u v)) v k (omega arith)
      (λ e. rw (e, S.here u (omega arith)) (near u (omega arith)))
      (λ r. rw (S.others u v (omega arith) (omega arith) (λ e. omega arith)) (P.columns u v p r))

  found-next : (d : ℕ → ℕ → ℕ) → Columns m (k + 1) d → Found m d (k + 1) f'
  found-next d D =
      found-more L d k (λ x. get_or column x 0) f f' (λ x p. distance_one (D x k p (omega arith)) (near x (omega arith)))
      (P.found d (λ u v p q. D u v p (omega arith))) K

  pub progress_more : Progress m n (k + 1) before distances' marks' f'
  progress_more = record {
    size = S.size ∙ P.size;
    rest = λ i p. S.rest i p ∙ P.rest i p;
    columns = columns-more;
    found = found-next;
    marked = rw (M, marks_same G k (omega arith)) (marks_more m k f.place f'.place marks (omega arith) (looked_down _ f f' K) P.marked);
  }

-- how the check ends, with n for the places
module _ (m : Map) (before distances marks : List ℕ) (f : Fault) (long : area m ≤ length before) where
  pub end_cut_off : (n k u : ℕ) → n ≡ m.places → Progress m n k before distances marks f → u < n → k < n → ((l : ℕ) → Road m k u l → ⊥) → (l : List ℕ)
      → l ≡ cleared (n * n) distances → CheckedOn 0 m before 11 l
  end_cut_off n k u size P p q no-road l e =
      subst (CheckedOn 0 m before 11) (sym (e ∙ same ∙ ap (λ (x : ℕ). cleared (x * x) before) size))
      (cut_off u k refl long (omega arith) (omega arith) no-road)
    where
      same : cleared (n * n) distances ≡ cleared (n * n) before
      same = cleared-same (n * n) before distances P.size P.rest

  whole : LaidOut m → Progress m m.places m.places before distances marks f → (r : ℕ) → r ≡ number_of_check m.places m.blocks marks f → CheckedOn 0 m before r distances
  whole L P r e =
      subst (λ (x : ℕ). CheckedOn 0 m before x distances) (sym (e ∙ number_is L d f marks (P.found d P.columns) P.marked))
      (judged d refl long P.columns (record { size = P.size; words = λ u v p q. refl; rest = P.rest }))
    where
      d : ℕ → ℕ → ℕ
      d = table_of m.places distances

  pub end_judged : (n k blocks r : ℕ) → n ≡ m.places → blocks ≡ m.blocks → k ≡ n → LaidOut m → Progress m n k before distances marks f → r ≡ number_of_check n blocks marks f
      → CheckedOn 0 m before r distances
  end_judged n k blocks r size b all L P e =
      whole L (subst (λ (x : ℕ). Progress m x x before distances marks f) size (rw all at P)) r
      (e ∙ ap (λ (x : ℕ). number_of_check x blocks marks f) size ∙ ap (λ (x : ℕ). number_of_check m.places x marks f) b)
