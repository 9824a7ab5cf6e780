-- The outcomes for C are one, and say what those in words say.
use Prim.Native.Nat.{ℕ, zero, suc, ◌*◌, ◌/◌, ◌^◌, ◌≤◌, ◌<◌}
use native.Mathlib.Omega.{arith}
use mathlib.Core.Path.{◌≡◌, refl, sym, ap, subst, ◌∙◌}
use mathlib.Core.Bool.{Bool}
use mathlib.Core.Logic.{◌↔◌}
use mathlib.Core.List.{List, [], ◌∷◌}
use lib.Dec.{leb}
use lib.ListN.{length, get_or, drop, replicate}
use borrow.Author.Tests.{leb-true, le-leb, lt-leb}
use Rattle.paper.specs.Sizes.{line_words, slot_words, most_offices, word_bytes, long_bytes, counts_bytes}
use Rattle.paper.specs.Test.{due, or_else}
use Rattle.paper.specs.Served.{Served, refused, served}
use Rattle.paper.specs.Map.{Map, Offices}
use Rattle.paper.specs.Quest.{Quest, directed}
use Rattle.paper.specs.Sheet.{map_of, offices_of}
use Rattle.paper.specs.Layout.{Bytes, layout}
use Rattle.paper.specs.Slice.{cleared}
use Rattle.paper.specs.Verdict.{area, AcceptedOn, Accepted}
use Rattle.paper.specs.Listing.{State, listing}
use Rattle.paper.specs.Reply.{Reply, invalid, Valid, lines_out, walk_out, reply_by, reply_on, reply, quest_of, Answered}
use Rattle.paper.specs.Bounds.{ListedWithin, WordsBelow}
use Rattle.paper.specs.Words.{number_in, words_of, longs_held, written, Fit}
use Rattle.paper.specs.Host.{HostCheckedOn, HostReply, counted_by, counted, in_bytes, host_invalid, host_reply_on, host_reply, HostValidOn, HostValid, read_back}
use Rattle.paper.proofs.LaidOut.{LaidOut}
use Rattle.paper.proofs.Test.{or_first, or_next, or_left, or_right, or_zero, due_true}
use Rattle.paper.proofs.Checked.{checked_one, checked_truth}
use Rattle.paper.proofs.Holds.{On, Any}
use Rattle.paper.proofs.Laid.{laid_out, offices_few}
use Rattle.paper.proofs.Reply.{Kept, valid as allowed, lines_below, total_below, sheet-listed, reply_answered, reply_below, reply_kept}
use Rattle.paper.proofs.Words.{words_size, written_size, words_fit, fit_drop, fit_append, fit_zeros, written_back}

-- any two outcomes of a check are equal: the number, and every byte of the slice
module _ {laid : ℕ} {m : Map} {before : List ℕ} (h : laid ≡ 0 → LaidOut m) where
  pub host_checked_one : {n n' : ℕ} {after after' : List ℕ} → HostCheckedOn laid m before n after → HostCheckedOn laid m before n' after' → (n ≡ n') × (after ≡ after')
  host_checked_one C D =
      let (number, words) = checked_one h C.checked D.checked in
      (number, C.bytes ∙ ap (λ (l : List ℕ). written word_bytes l before) words ∙ sym D.bytes)

  -- lent enough, it accepts exactly what tells the truth
  pub host_checked_truth : {n : ℕ} {after : List ℕ} → word_bytes * area m ≤ length before → HostCheckedOn laid m before n after → (n ≡ 0) ↔ AcceptedOn laid m
  host_checked_truth long C = checked_truth h (omega (arith, words_size word_bytes (length before / word_bytes) before)) C.checked

-- what is due, by the words and then by the counts
module _ (m : Map) (o : Offices) (q k d : ℕ) (answer working counts : List ℕ) where
  abbrev early : ℕ
  early = invalid m o q k d (longs_held answer) (longs_held working)

  abbrev late : ℕ
  late = due (leb counts_bytes (length counts)) 9

  pub invalid-words : (n : ℕ) → early ≡ n → (n ≡ 0 → ⊥) → host_invalid m o q k d answer working counts ≡ n
  unfolding host_invalid
  invalid-words zero e ne = absurd (ne refl)
  invalid-words (suc n) e ne = or_first early late n e

  pub invalid_counts : early ≡ 0 → length counts < counts_bytes → host_invalid m o q k d answer working counts ≡ 9
  unfolding host_invalid
  invalid_counts e h = or_next early late e ∙ ap (λ (t : Bool). due t 9) (lt-leb counts_bytes (length counts) h)

  pub invalid_none : early ≡ 0 → counts_bytes ≤ length counts → host_invalid m o q k d answer working counts ≡ 0
  unfolding host_invalid
  invalid_none e h = or_next early late e ∙ ap (λ (t : Bool). due t 9) (le-leb counts_bytes (length counts) h)

-- a question with nothing due is the question of document 01 over the words
module _ (laid : ℕ) (m : Map) (o : Offices) (q k d : ℕ) (answer working counts : List ℕ) (valid : HostValidOn m o q k d answer working counts) where
  abbrev room : ℕ
  room = due (leb counts_bytes (length counts)) 9

  pub host_valid : invalid m o q k d (longs_held answer) (longs_held working) ≡ 0
  unfolding host_invalid
  host_valid = or_left (invalid m o q k d (longs_held answer) (longs_held working)) room valid

  pub host_room : counts_bytes ≤ length counts
  unfolding host_invalid
  host_room = leb-true _ _ (due_true (leb counts_bytes (length counts)) 9 (omega arith) (or_right (invalid m o q k d (longs_held answer) (longs_held working)) room valid))

  pub host_words : host_reply_on laid m o q k d answer working counts ≡ in_bytes answer working counts (reply_on laid m o q k d (longs_held answer) (longs_held working))
  unfolding host_reply_on reply_on
  host_words = ap (λ (n : ℕ). in_bytes answer working counts (reply_by m (directed o q d) k (longs_held answer) (longs_held working) (or_else laid n))) (valid ∙ sym host_valid)

-- the words of a reply have room in 64 bits
pub record WordsFit (r : Reply) : Type 0 where
  pub count : r.count < 256 ^ long_bytes
  pub refinements : r.refinements < 256 ^ long_bytes
  pub answer : Fit long_bytes r.answer
  pub working : Fit long_bytes r.working

-- the slice of counts, by its length
pub counted_long : (a b : ℕ) (c : List ℕ) → counts_bytes ≤ length c → counted a b c ≡ written long_bytes (a ∷ b ∷ []) c
unfolding counted
counted_long a b c h = ap (counted_by a b c) (le-leb counts_bytes (length c) h)

pub counted_short : (a b : ℕ) (c : List ℕ) → length c < counts_bytes → counted a b c ≡ c
unfolding counted
counted_short a b c h = ap (counted_by a b c) (lt-leb counts_bytes (length c) h)

-- the counts that stand there
counts_back : (a b : ℕ) (c : List ℕ) → counts_bytes ≤ length c → a < 256 ^ long_bytes → b < 256 ^ long_bytes
    → (number_in long_bytes (counted a b c) ≡ a) × (number_in long_bytes (drop long_bytes (counted a b c)) ≡ b)
unfolding words_of
counts_back a b c h p r = rw (counted_long a b c h) (ap (λ (l : List ℕ). get_or l 0 0) both, ap (λ (l : List ℕ). get_or l 1 0) both)
  where
    fits : Fit long_bytes (a ∷ b ∷ [])
    fits zero h = p
    fits (suc zero) h = r
    fits (suc (suc i)) h = absurd (omega arith)

    both : words_of long_bytes 2 (written long_bytes (a ∷ b ∷ []) c) ≡ a ∷ b ∷ []
    both = written_back long_bytes 2 (a ∷ b ∷ []) c refl fits

-- the words of a slice that keeps its length
longs_back : (b words : List ℕ) → length words ≡ length (longs_held b) → Fit long_bytes words → longs_held (written long_bytes words b) ≡ words
longs_back b words e F =
    let size : length words ≡ length b / long_bytes = e ∙ words_size long_bytes (length b / long_bytes) b in
    written_back long_bytes (length (written long_bytes words b) / long_bytes) words b (omega (arith, written_size long_bytes words b (omega arith))) F

-- a reply with room, in slices that keep their length, is what the host reads there
pub read_back_lem : (answer working counts : List ℕ) (r : Reply) → counts_bytes ≤ length counts → Kept (longs_held answer) (longs_held working) r → WordsFit r
    → read_back (in_bytes answer working counts r) ≡ r
read_back_lem answer working counts r room K R =
    let (listed, made) = counts_back r.count r.refinements counts room R.count R.refinements in
    rw (listed, made, longs_back answer r.answer K.answer R.answer, longs_back working r.working K.working R.working) refl

fit_cleared : (n : ℕ) (words : List ℕ) → Fit long_bytes words → Fit long_bytes (cleared n words)
fit_cleared n words F = fit_append long_bytes (replicate n 0) (drop n words) (fit_zeros long_bytes n) (fit_drop long_bytes n words F)

-- what a walk on a map that keeps the rules leaves
walk_fits : {m : Map} (x : Quest) (k : ℕ) (a w : List ℕ) → LaidOut m → x.count ≤ most_offices → k ≤ x.count → Fit long_bytes a → Fit long_bytes w
    → (r : Served State) → On Any (ListedWithin m x) r → WordsFit (walk_out x.count k a w r)
walk_fits x k a w L few most F G (refused n) W = record {
  count = omega arith;
  refinements = omega arith;
  answer = fit_cleared (line_words * k) a F;
  working = fit_cleared (slot_words * x.count) w G;
}
walk_fits x k a w L few most F G (served st) W = record {
  count = omega arith;
  refinements = omega (arith, total_below x L few st W);
  answer = fit_append long_bytes (lines_out st.lines) (drop (line_words * k) a) (λ i p. omega (arith, lines_below x L few st.lines W.lines i p)) (fit_drop long_bytes (line_words * k) a F);
  working = fit_cleared (slot_words * x.count) w G;
}

-- what a host reads in its slices
module _ (s : List ℕ) (q k d : ℕ) (answer working counts : List ℕ) (sheet : Bytes s) (a : Bytes answer) (w : Bytes working) where
  abbrev hosted : HostReply
  hosted = host_reply s q k d answer working counts

  abbrev in_words : Reply
  in_words = reply s q k d (longs_held answer) (longs_held working)

  held_fits : (b : List ℕ) → Bytes b → Fit long_bytes (longs_held b)
  held_fits b B = words_fit long_bytes (length b / long_bytes) b B (omega arith)

  -- after a valid question on any sheet whose layout holds: the reply in words, no number of which is cut by its 64 bits
  pub host_read : layout s ≡ 0 → HostValid s q k d answer working counts → read_back hosted ≡ in_words
  unfolding host_reply reply reply_on
  host_read laid valid =
      ap (λ (h : HostReply). read_back h) (host_words (layout s) (map_of s) (offices_of s) q k d answer working counts valid)
      ∙ read_back_lem answer working counts in_words (host_room (layout s) (map_of s) (offices_of s) q k d answer working counts valid) (reply_kept s q k d (longs_held answer) (longs_held working))
      (subst WordsFit (sym walked) (walk_fits x k _ _ (laid_out s sheet laid) (offices_few s laid) most (held_fits answer a) (held_fits working w) (listing (map_of s) x k) (sheet-listed s q k d (longs_held answer) (longs_held working) sheet laid none)))
    where
      x : Quest
      x = quest_of s q d

      none : Valid s q k d (longs_held answer) (longs_held working)
      none = host_valid (layout s) (map_of s) (offices_of s) q k d answer working counts valid

      most : k ≤ (offices_of s).count
      most = (allowed (map_of s) (offices_of s) q k d (longs_held answer) (longs_held working) none).enough

      walked : in_words ≡ walk_out (offices_of s).count k (longs_held answer) (longs_held working) (listing (map_of s) x k)
      walked = ap (reply_by (map_of s) x k (longs_held answer) (longs_held working)) (or_zero (layout s) _ laid none)

  -- on an accepted sheet, what a valid question promises
  pub host_answered : Accepted s → HostValid s q k d answer working counts → Answered s q k d (longs_held answer) (read_back hosted)
  host_answered A valid =
      subst (Answered s q k d (longs_held answer)) (sym (host_read A.laid valid))
      (reply_answered s q k d (longs_held answer) (longs_held working) sheet A (host_valid (layout s) (map_of s) (offices_of s) q k d answer working counts valid))

  -- on any sheet, where the question is not refused
  pub host_below : hosted.number ≡ 0 → WordsBelow k (read_back hosted)
  unfolding host_reply host_reply_on
  host_below h =
      let none : early ≡ 0 = go early h in
      let laid : layout s ≡ 0 = or_left (layout s) _ none in
      let same : read_back hosted ≡ in_words = host_read laid (or_right (layout s) _ none) in
      subst (WordsBelow k) (sym same) (reply_below s q k d (longs_held answer) (longs_held working) sheet (sym (ap (λ (r : Reply). r.number) same) ∙ h))
    where
      early : ℕ
      early = or_else (layout s) (host_invalid (map_of s) (offices_of s) q k d answer working counts)

      go : (n : ℕ) → (reply_by (map_of s) (quest_of s q d) k (longs_held answer) (longs_held working) n).number ≡ 0 → n ≡ 0
      go zero e = refl
      go (suc n) e = absurd (omega arith)
