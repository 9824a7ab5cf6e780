-- The reply that the code hands over is that of the definitions: refused before the walk, listed, or refused by the walk.
use Prim.Native.Nat.{ℕ, zero, suc, ◌*◌, ◌/◌, ◌≤◌, ◌<◌}
use native.Mathlib.Omega.{arith}
use mathlib.Core.Path.{◌≡◌, refl, sym, ap, subst, ◌∙◌}
use mathlib.Core.List.{List, ◌++◌}
use lib.ListN.{length, drop}
use Rattle.paper.specs.Sizes.{line_words, slot_words, long_bytes}
use Rattle.paper.specs.Served.{refused, served}
use Rattle.paper.specs.Map.{Map, Offices}
use Rattle.paper.specs.Quest.{Quest, directed}
use Rattle.paper.specs.Sheet.{map_of, offices_in, offices_of}
use Rattle.paper.specs.Refusal.{number_of}
use Rattle.paper.specs.declared.Counts.{Counts}
use Rattle.paper.specs.declared.refusal.Refusal.{Refusal}
use Rattle.paper.specs.Layout.{Bytes, layout}
use Rattle.paper.specs.Verdict.{Accepted}
use Rattle.paper.specs.Listing.{State, listing}
use Rattle.paper.specs.Slice.{cleared}
use Rattle.paper.specs.Test.{or_else}
use Rattle.paper.specs.Words.{longs_held, as_bytes, written}
use Rattle.paper.specs.Reply.{lines_out, walk_out, reply_by, ListsNearest, RefinesThriftily, Answered}
use Rattle.paper.specs.Host.{HostReply, counted, in_bytes, host_invalid, host_reply_on, HostValidOn, host_reply, HostValid, read_back}
use Rattle.paper.proofs.Test.{or_first, or_next}
use Rattle.paper.proofs.Reply.{Allowed, valid, lines_size}
use Rattle.paper.proofs.Words.{words_size, written_same, written_front, written-cleared}
use Rattle.paper.proofs.Numbers.{number_some}
use Rattle.paper.proofs.Host.{host_valid, host_answered}
use Rattle.sheet.specs.Laid.{laid_of, list_from}
use Rattle.sheet.proofs.Room.{laid_counts, laid_number}
use Rattle.sheet.proofs.Grounds.{list_offices, sectioned}
use Rattle.catalogue.specs.Handed.{handed}

-- bytes as they are, by the words that stand in them
longs_same : (b : List ℕ) → Bytes b → written long_bytes (longs_held b) b ≡ b
longs_same b B = written_same long_bytes (length b / long_bytes) b B (omega arith)

longs_cleared : (n : ℕ) (b : List ℕ) → Bytes b → long_bytes * n ≤ length b → written long_bytes (cleared n (longs_held b)) b ≡ cleared (long_bytes * n) b
longs_cleared n b B h = written-cleared long_bytes (length b / long_bytes) n b B (omega arith) (omega arith)

longs_front : (n : ℕ) (xs b : List ℕ) → Bytes b → length xs ≡ n → long_bytes * n ≤ length b → written long_bytes (xs ++ drop n (longs_held b)) b ≡ written long_bytes xs b
longs_front n xs b B e h =
    written_front long_bytes (length b / long_bytes) n xs b B (omega arith) e (omega arith) ∙ ap (λ (i : ℕ). as_bytes long_bytes xs ++ drop (long_bytes * i) b) (sym e)

module _ (m : Map) (o : Offices) (q k d : ℕ) (answer working counts : List ℕ) (a : Bytes answer) (w : Bytes working) where
  abbrev x : Quest
  x = directed o q d

  -- refused by the layout, or by 7, 8 and 9
  host-early : (laid n : ℕ) → or_else laid (host_invalid m o q k d answer working counts) ≡ suc n
      → handed (suc n) answer working (counted 0 0 counts) ≡ host_reply_on laid m o q k d answer working counts
  unfolding host_reply_on
  host-early laid n e =
      sym (ap (λ (i : ℕ). in_bytes answer working counts (reply_by m x k (longs_held answer) (longs_held working) i)) e
      ∙ ap (λ (l : List ℕ). handed (suc n) l (written long_bytes (longs_held working) working) (counted 0 0 counts)) (longs_same answer a)
      ∙ ap (λ (l : List ℕ). handed (suc n) answer l (counted 0 0 counts)) (longs_same working w))

  pub host_badly_laid : (laid n : ℕ) → laid ≡ suc n → handed (suc n) answer working (counted 0 0 counts) ≡ host_reply_on laid m o q k d answer working counts
  host_badly_laid laid n e = host-early laid n (or_first laid (host_invalid m o q k d answer working counts) n e)

  refused_by : (y : ℕ) → 0 < y → y ≡ host_invalid m o q k d answer working counts → handed y answer working (counted 0 0 counts) ≡ host_reply_on 0 m o q k d answer working counts
  refused_by zero some t = absurd (omega arith)
  refused_by (suc y) some t = host-early 0 y (or_next 0 (host_invalid m o q k d answer working counts) refl ∙ sym t)

  pub host_refused_by : (r : Refusal) → number_of r ≡ host_invalid m o q k d answer working counts
      → handed (number_of r) answer working (counted 0 0 counts) ≡ host_reply_on 0 m o q k d answer working counts
  host_refused_by r t = refused_by (number_of r) (number_some r) t

  -- a question that is valid: what the walk needs, in bytes
  module _ (fine : HostValidOn m o q k d answer working counts) where
    allowed : Allowed m o q k d (longs_held answer) (longs_held working)
    allowed = valid m o q k d (longs_held answer) (longs_held working) (host_valid 0 m o q k d answer working counts fine)

    held : (b : List ℕ) → length (longs_held b) ≡ length b / long_bytes
    held b = words_size long_bytes (length b / long_bytes) b

    pub record Lent : Type 0 where
      pub one : 1 ≤ k
      pub enough : k ≤ o.count
      pub place : suc q ≤ m.places
      pub answers : long_bytes * (line_words * k) ≤ length answer
      pub works : long_bytes * (slot_words * o.count) ≤ length working

    pub host-lent : Lent
    host-lent = record {
      one = allowed.one;
      enough = allowed.enough;
      place = allowed.place;
      answers = omega (arith, allowed.answers, held answer);
      works = omega (arith, allowed.works, held working);
    }

    walked : host_reply_on 0 m o q k d answer working counts ≡ in_bytes answer working counts (walk_out o.count k (longs_held answer) (longs_held working) (listing m x k))
    unfolding host_reply_on
    walked = ap (λ (i : ℕ). in_bytes answer working counts (reply_by m x k (longs_held answer) (longs_held working) i)) (or_next 0 (host_invalid m o q k d answer working counts) refl ∙ fine)

    module _ (n : ℕ) (same : n ≡ o.count) (w' : List ℕ) (W : w' ≡ cleared (long_bytes * (slot_words * n)) working) where
      zeroed : w' ≡ written long_bytes (cleared (slot_words * o.count) (longs_held working)) working
      zeroed = W ∙ ap (λ (i : ℕ). cleared (long_bytes * (slot_words * i)) working) same ∙ sym (longs_cleared (slot_words * o.count) working w host-lent.works)

      pub host-done : (st : State) (total : ℕ) (a' : List ℕ) → listing m x k ≡ served st → st.total ≡ total → length st.lines ≡ k
          → a' ≡ written long_bytes (lines_out st.lines) answer → handed 0 a' w' (counted k total counts) ≡ host_reply_on 0 m o q k d answer working counts
      host-done st total a' e made size A =
          sym (walked ∙ ap (λ r. in_bytes answer working counts (walk_out o.count k (longs_held answer) (longs_held working) r)) e ∙ rw (made, front, ← zeroed, ← A) refl)
        where
          front : written long_bytes (lines_out st.lines ++ drop (line_words * k) (longs_held answer)) answer ≡ written long_bytes (lines_out st.lines) answer
          front = longs_front (line_words * k) (lines_out st.lines) answer a (omega (arith, lines_size st.lines, size)) host-lent.answers

      pub host-refused : (r : ℕ) (a' : List ℕ) → listing m x k ≡ refused r → a' ≡ cleared (long_bytes * (line_words * k)) answer
          → handed r a' w' (counted 0 0 counts) ≡ host_reply_on 0 m o q k d answer working counts
      host-refused r a' e A =
          sym (walked ∙ ap (λ r. in_bytes answer working counts (walk_out o.count k (longs_held answer) (longs_held working) r)) e
          ∙ rw (longs_cleared (line_words * k) answer a host-lent.answers, ← zeroed, ← A) refl)

-- the entry's contract
module _ (s : List ℕ) (q k d : ℕ) (answer working counts : List ℕ) where
  -- over the map and the list of a sheet that its layout passes
  pub laid_host : (g l : List ℕ) (c : Counts) → served c ≡ laid_of s → g ≡ s → l ≡ drop (list_from c) s
      → host_reply_on 0 (map_of g) (offices_in l) q k d answer working counts ≡ host_reply s q k d answer working counts
  unfolding host_reply
  laid_host g l c h p f = let (e, n) = laid_counts s c h in rw (p, f, list_offices s c (sectioned s c e n), e)

  pub refused_host : (r : ℕ) → Bytes answer → Bytes working → refused r ≡ laid_of s → handed r answer working (counted 0 0 counts) ≡ host_reply s q k d answer working counts
  unfolding host_reply
  refused_host r a w e =
      let (n, same, number) = laid_number s r e in
      rw same (host_badly_laid (map_of s) (offices_of s) q k d answer working counts a w (layout s) n number)

  -- the three clauses
  abbrev pub Promised : HostReply → Type 0
  Promised h =
      (h ≡ host_reply s q k d answer working counts)
      × (Accepted s → HostValid s q k d answer working counts → ListsNearest s q k d (longs_held answer) (read_back h))
      × (Accepted s → HostValid s q k d answer working counts → RefinesThriftily s q k d (read_back h))

  pub promised : Bytes s → Bytes answer → Bytes working → (h : HostReply) → h ≡ host_reply s q k d answer working counts → Promised h
  promised b a w h e = (e, λ A fine. (said A fine).nearest, λ A fine. (said A fine).thrifty)
    where
      said : Accepted s → HostValid s q k d answer working counts → Answered s q k d (longs_held answer) (read_back h)
      said A fine = subst (λ (g : HostReply). Answered s q k d (longs_held answer) (read_back g)) (sym e) (host_answered s q k d answer working counts b a w A fine)
