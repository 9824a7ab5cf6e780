-- What is written is what the paper's program prints.
use Prim.Native.Nat.{ℕ, zero, suc, ◌≤◌}
use Rattle.std.proofs.Common.{Result, Ok, Err, IfOk, IfErr}
use Rattle.std.specs.Result.{IsErrAnd, MatchResult}
use Rattle.std.proofs.lemmas.Result.{err_from_is_err_and}
use native.Mathlib.Omega.{arith}
use mathlib.Core.Path.{◌≡◌, refl, sym, ap, subst, ◌∙◌}
use mathlib.Core.List.{List}
use Rattle.paper.specs.Sizes.{program_offices}
use Rattle.paper.specs.Served.{Served, refused, served}
use Rattle.paper.specs.Map.{Map, Offices}
use Rattle.paper.specs.Sheet.{word, map_of, offices_of}
use Rattle.paper.specs.Layout.{layout}
use Rattle.paper.specs.Quest.{directed}
use Rattle.paper.specs.Listing.{State, listing}
use Rattle.paper.specs.Test.{or_else}
use Rattle.paper.specs.Reply.{Reply, invalid, walk_out, reply_by, reply_on, reply}
use Rattle.paper.specs.Printed.{refusal_text, reply_text, unfit, sheet_in, lent_answer, lent_working, program_reply, Printed, misfit, unproven, replied as asked}
use Rattle.paper.proofs.Numbers.{number_some}
use Rattle.paper.proofs.Test.{or_right}
use Rattle.paper.proofs.Reply.{Allowed, valid}
use Rattle.paper.specs.Refusal.{number_of, number}
use Rattle.paper.specs.declared.Listed.{Listed}
use Rattle.paper.specs.declared.refusal.Refusal.{Refusal}
use Rattle.nearest.specs.Question.{replied}
use Rattle.text.specs.Put.{Written, count_of, reply_of}
use Rattle.text.proofs.Reply.{reply_refused}
use Rattle.text.proofs.Put.{written-first, written_rest, put_length}
use Rattle.desk.specs.Serve.{Judged, Serves}
use Rattle.desk.proofs.Unfit.{fit}

pub serves_by : {input text before after : List ℕ} {r : ℕ} → Written 0 text before after r → Printed input text → Serves input before after r
serves_by {input} {text} {before} {after} {r} W P = record {
  fits = omega (arith, W.past, W.put.fits, put_length W.put);
  printed = subst (Printed input) (sym (written-first W)) P;
  rest = written_rest W;
}

pub refused_early : (input : List ℕ) (n : ℕ) → n ≡ unfit input → (n ≡ 0 → ⊥) → Printed input (refusal_text n)
refused_early input zero e ne = absurd (ne refl)
refused_early input (suc n) e ne = misfit (sym e)

pub refused_unfit : (input : List ℕ) (r : Refusal) → number_of r ≡ unfit input → Printed input (refusal_text (number_of r))
refused_unfit input r e = refused_early input (number_of r) e (λ e. omega (arith, number_some r, e))

pub refused_untrue : (input : List ℕ) (n : ℕ) → unfit input ≡ 0 → Judged (sheet_in input) n → (n ≡ 0 → ⊥) → Printed input (refusal_text n)
refused_untrue input zero e J ne = absurd (ne refl)
refused_untrue input (suc n) e J ne = unproven e J.checked

-- what the check says of the sheet of an input that passes the tests
pub judged_true : (input : List ℕ) (r : Result (Unit {0}) Refusal) → unfit input ≡ 0 → Judged (sheet_in input) (number r)
    → IfOk r (λ _. (unfit input ≡ 0) × Judged (sheet_in input) 0)
judged_true input (Ok a) e J = (e, J)
judged_true input (Err r) e J = tt

pub judged_untrue : (input : List ℕ) (r : Result (Unit {0}) Refusal) → unfit input ≡ 0 → Judged (sheet_in input) (number r)
    → IfErr r (λ x. Printed input (refusal_text (number_of x)))
judged_untrue input (Ok a) e J = tt
judged_untrue input (Err r) e J = refused_untrue input (number_of r) e J (λ e. omega (arith, number_some r, e))

pub replied_true : (input : List ℕ) → unfit input ≡ 0 → Judged (sheet_in input) 0 → Printed input (reply_text (program_reply input))
replied_true input e J = asked {table = J.table} e J.checked

-- no more offices are listed than there are
pub count_most : (s : List ℕ) (q k d : ℕ) (a w : List ℕ) → (reply s q k d a w).count ≤ (offices_of s).count
unfolding reply reply_on
count_most s q k d a w = go (or_else (layout s) (invalid (map_of s) (offices_of s) q k d a w)) refl
  where
    m : Map
    m = map_of s

    o : Offices
    o = offices_of s

    walk : Allowed m o q k d a w → (r : Served State) → (walk_out o.count k a w r).count ≤ o.count
    walk A (refused n) = omega arith
    walk A (served st) = A.enough

    go : (n : ℕ) → or_else (layout s) (invalid m o q k d a w) ≡ n → (reply_by m (directed o q d) k a w n).count ≤ o.count
    go (suc n) e = omega arith
    go zero e = walk (valid m o q k d a w (or_right (layout s) _ e)) (listing m (directed o q d) k)

pub program_is : (input : List ℕ) (q k d : ℕ) (r : Reply) → q ≡ word input 0 → k ≡ word input 1 → d ≡ word input 2 → r ≡ reply (sheet_in input) q k d lent_answer lent_working
    → r ≡ program_reply input
unfolding program_reply
program_is input q k d r a b c e = rw (← a, ← b, ← c) e

pub program_count : (input : List ℕ) → unfit input ≡ 0 → (r : Reply) → r ≡ program_reply input → r.count ≤ program_offices
unfolding program_reply
program_count input h r e = omega (arith, ap (λ (x : Reply). x.count) e, count_most (sheet_in input) (word input 0) (word input 1) (word input 2) lent_answer lent_working, (fit input h).offices)

-- what the question gives, with a refusal as its number
abbrev pub as_number : Result Listed Refusal → Result Listed ℕ
as_number (Ok l) = Ok l
as_number (Err r) = Err (number_of r)

pub mapped : (r : Result Listed Refusal) (t : Result Listed ℕ) → MatchResult r (λ l. t ≡ Ok l) (λ e. IsErrAnd t (λ n. n ≡ number_of e)) → t ≡ as_number r
mapped (Ok l) t h = h
mapped (Err r) t h = let p = err_from_is_err_and t h in p.1 ∙ ap Err p.2

pub count_same : (r : Result Listed Refusal) (a w : List ℕ) → count_of (as_number r) ≡ (replied r a w).count
count_same (Ok l) a w = refl
count_same (Err r) a w = refl

-- its text is that of the reply
pub written_as : (r : Result Listed Refusal) (a w : List ℕ) {u v : List ℕ} {n : ℕ} → IfOk (as_number r) (λ l. (x : List ℕ) → Written 0 (reply_text (reply_of 0 l.count l.refinements a x)) u v n)
    → IfErr (as_number r) (λ k. Written 0 (refusal_text k) u v n) → Written 0 (reply_text (replied r a w)) u v n
written_as (Ok l) a w p q = p w
written_as (Err r) a w p q = rw (reply_refused (number_of r) 0 0 a w (λ e. omega (arith, number_some r, e))) q
