-- A check ends in one way, and accepts exactly what is laid out and tells the truth.
use Prim.Native.Nat.{ℕ, ◌+◌, ◌*◌, ◌/◌, ◌%◌, ◌≤◌, ◌<◌}
use native.Mathlib.Omega.{arith}
use native.Mathlib.Nat.{mod-lt, div-add-mod', div-lt_iff_lt-mul}
use native.Mathlib.Decide.{dec_lt}
use mathlib.Core.Path.{◌≡◌, refl, sym, ◌∙◌}
use mathlib.Core.Logic.{◌↔◌}
use mathlib.Core.List.{List}
use lib.ListN.{length, get_or}
use lib.Seq.{ext_get_or}
use Rattle.paper.specs.Map.{Map}
use Rattle.paper.proofs.LaidOut.{LaidOut}
use Rattle.paper.specs.Slice.{Untouched}
use Rattle.paper.specs.Verdict.{area, Tabled, CheckedOn, badly_laid, short, cut_off, judged, AcceptedOn}
use Rattle.paper.proofs.Road.{distance_one}
use Rattle.paper.proofs.Cleared.{cleared_size, cleared_rest}
use Rattle.paper.proofs.Verdict.{verdict-truth, truth-verdict, verdict_one}

-- a table's slice is one
pub tabled_one : {n : ℕ} {d d' : ℕ → ℕ → ℕ} {before a a' : List ℕ} → ((u v : ℕ) → u < n → v < n → d u v ≡ d' u v)
    → Tabled n d before a → Tabled n d' before a' → a ≡ a'
tabled_one {n} {d} {d'} {before} {a} {a'} same A B = ext_get_or 0 a a' (A.size ∙ sym B.size) (λ i p. go i (dec_lt i (n * n)))
  where
    some : (i : ℕ) → i < n * n → Dec (0 < n) → 0 < n
    some i p (yes h) = h
    some i p (no h) = let z : n ≡ 0 = omega arith in absurd (omega (arith, rw z at p))

    go : (i : ℕ) → Dec (i < n * n) → get_or a i 0 ≡ get_or a' i 0
    go i (yes p) =
        let h : 0 < n = some i p (dec_lt 0 n) in
        let u : i / n < n = (div-lt_iff_lt-mul h).1 p in
        let v : i % n < n = mod-lt i h in
        let e : get_or a (i / n * n + i % n) 0 ≡ get_or a' (i / n * n + i % n) 0 = A.words (i / n) (i % n) u v ∙ same (i / n) (i % n) u v ∙ sym (B.words (i / n) (i % n) u v) in
        rw (div-add-mod' i n) at e
    go i (no p) = A.rest i (omega arith) ∙ sym (B.rest i (omega arith))

-- over the number that the layout gives, and a map that is laid out where that is 0
module _ {laid : ℕ} {m : Map} {before : List ℕ} where
  -- the slice keeps its length, and words beyond N × N are always untouched
  pub checked_size : {n : ℕ} {after : List ℕ} → CheckedOn laid m before n after → length after ≡ length before
  checked_size (badly_laid e) = refl
  checked_size (short e p) = refl
  checked_size (cut_off u v e p hu hv no-road) = cleared_size (area m) before p
  checked_size (judged d e p D t) = t.size

  pub checked_rest : {n : ℕ} {after : List ℕ} → CheckedOn laid m before n after → Untouched (area m) before after
  checked_rest (badly_laid e) = λ k h. refl
  checked_rest (short e p) = λ k h. refl
  checked_rest (cut_off u v e p hu hv no-road) = cleared_rest (area m) before
  checked_rest (judged d e p D t) = t.rest

  -- the number and the slice at exit are determined
  pub checked_one : (laid ≡ 0 → LaidOut m) → {n n' : ℕ} {after after' : List ℕ} → CheckedOn laid m before n after → CheckedOn laid m before n' after' → (n ≡ n') × (after ≡ after')
  checked_one h (badly_laid e) (badly_laid e') = (sym e ∙ e', refl)
  checked_one h (badly_laid e) (short e' p) = absurd (omega arith)
  checked_one h (badly_laid e) (cut_off u v e' p hu hv no-road) = absurd (omega arith)
  checked_one h (badly_laid e) (judged d e' p D t) = absurd (omega arith)
  checked_one h (short e p) (badly_laid e') = absurd (omega arith)
  checked_one h (short e p) (short e' p') = (refl, refl)
  checked_one h (short e p) (cut_off u v e' p' hu hv no-road) = absurd (omega arith)
  checked_one h (short e p) (judged d e' p' D t) = absurd (omega arith)
  checked_one h (cut_off u v e p hu hv no-road) (badly_laid e') = absurd (omega arith)
  checked_one h (cut_off u v e p hu hv no-road) (short e' p') = absurd (omega arith)
  checked_one h (cut_off u v e p hu hv no-road) (cut_off u' v' e' p' hu' hv' no-road') = (refl, refl)
  checked_one h (cut_off u v e p hu hv no-road) (judged d e' p' D t) = absurd (no-road (d u v) (D u v hu hv).road)
  checked_one h (judged d e p D t) (badly_laid e') = absurd (omega arith)
  checked_one h (judged d e p D t) (short e' p') = absurd (omega arith)
  checked_one h (judged d e p D t) (cut_off u v e' p' hu hv no-road) = absurd (no-road (d u v) (D u v hu hv).road)
  checked_one h (judged d e p D t) (judged d' e' p' D' t') =
      (verdict_one (h e) d d' D D', tabled_one (λ u v hu hv. distance_one (D u v hu hv) (D' u v hu hv)) t t')

  -- 0 exactly where nothing is due in the layout and the map tells the truth
  pub checked_truth : (laid ≡ 0 → LaidOut m) → {n : ℕ} {after : List ℕ} → area m ≤ length before → CheckedOn laid m before n after → (n ≡ 0) ↔ AcceptedOn laid m
  checked_truth h q (badly_laid e) = (λ z. absurd (omega arith), λ A. absurd (omega (arith, A.laid)))
  checked_truth h q (short e p) = absurd (omega arith)
  checked_truth h q (cut_off u v e p hu hv no-road) = (λ z. absurd (omega arith), λ A. absurd (no-road _ (A.truth.reach u v hu hv).is_d.road))
  checked_truth h q (judged d e p D t) = (λ z. record { laid = e; truth = verdict-truth (h e) d D z }, λ A. truth-verdict (h e) d D A.truth)
