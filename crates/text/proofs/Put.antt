-- Laws of writing a text: nothing, a byte, one text after another or before it; what is written is determined.
use Prim.Native.Nat.{ℕ, ◌+◌, ◌≤◌, ◌<◌}
use mathlib.Core.Path.{◌≡◌, refl, sym, ap, ◌∙◌}
use mathlib.Core.List.{List, [], ◌∷◌, ◌++◌, append_assoc, append-nil}
use native.Mathlib.Nat.{add-zero}
use native.Mathlib.Numerals.{add-one}
use native.Mathlib.Omega.{arith}
use lib.ListN.{length, take, drop, set, length-append, take-append-drop, length-drop}
use lib.Seq.{length-take-le, take_at, drop_at, take-append-le, take-take, drop-drop, set_split}
use Rattle.text.specs.Put.{Put, Written}

-- two outcomes of one writing are equal
pub put_one : {at : ℕ} {text u v w : List ℕ} → Put at text u v → Put at text u w → v ≡ w
put_one p q = p.whole ∙ sym q.whole

module _ {at : ℕ} {text u v : List ℕ} (p : Put at text u v) where
  -- the bytes up to the end of the text, and those after it
  before-end : take at u ++ text ++ drop (at + length text) u ≡ v
  before-end = append_assoc (take at u) text _ ∙ sym p.whole

  at-end : length (take at u ++ text) ≡ at + length text
  at-end = length-append (take at u) text ∙ ap (λ n. n + length text) (length-take-le at u (omega (arith, p.fits)))

  pub put_length : length v ≡ length u
  put_length = omega (arith, ap length (before-end), length-append (take at u ++ text) (drop (at + length text) u), at-end, length-drop (at + length text) u, p.fits)

  pub put_take : take (at + length text) v ≡ take at u ++ text
  put_take = ap (take (at + length text)) (sym before-end) ∙ take_at (take at u ++ text) _ _ at-end

  pub put_drop : drop (at + length text) v ≡ drop (at + length text) u
  put_drop = ap (drop (at + length text)) (sym before-end) ∙ drop_at (take at u ++ text) _ _ at-end

-- a text at the start is what the slice begins with
pub put_first : {text u v : List ℕ} → Put 0 text u v → take (length text) v ≡ text
put_first {text} {u} {v} p =
    let e : length text ≡ 0 + length text = omega arith in
    ap (λ n. take n v) e ∙ put_take p

pub put_rest : {text u v : List ℕ} → Put 0 text u v → drop (length text) v ≡ drop (length text) u
put_rest {text} {u} {v} p =
    let e : length text ≡ 0 + length text = omega arith in
    ap (λ n. drop n v) e ∙ put_drop p ∙ ap (λ n. drop n u) (sym e)

pub put_none : (at : ℕ) (u : List ℕ) → at ≤ length u → Put at [] u u
put_none at u h = record {
  fits = omega arith;
  whole = sym (ap (λ n. take at u ++ drop n u) (add-zero at) ∙ take-append-drop at u);
}

pub put_byte : (at b : ℕ) (u : List ℕ) → at < length u → Put at (b ∷ []) u (set u at b)
put_byte at b u h = record {
  fits = omega arith;
  whole = set_split u at b h ∙ ap (λ n. take at u ++ (b ∷ drop n u)) (sym (add-one at));
}

-- a, and b after it
pub put_then : {at : ℕ} {a b u v w : List ℕ} → Put at a u v → Put (at + length a) b v w → Put at (a ++ b) u w
put_then {at} {a} {b} {u} {v} {w} p q = record {
  fits = omega (arith, length-append a b, put_length p, q.fits);
  whole =
      q.whole
      ∙ ap (λ l. l ++ (b ++ drop (at + length a + length b) v)) (put_take p)
      ∙ ap (λ l. take at u ++ a ++ (b ++ l)) rest
      ∙ append_assoc (take at u) a _
      ∙ ap (λ l. take at u ++ l) (sym (append_assoc a b _));
}
  where
    long : at + length a + length b ≡ at + length (a ++ b)
    long = omega (arith, length-append a b)

    rest : drop (at + length a + length b) v ≡ drop (at + length (a ++ b)) u
    rest =
        sym (drop-drop (length b) (at + length a) v)
        ∙ ap (drop (length b)) (put_drop p)
        ∙ drop-drop (length b) (at + length a) u
        ∙ ap (λ n. drop n u) long

-- b, and a before it
pub put_front : {at : ℕ} {a b u v w : List ℕ} → Put (at + length a) b u v → Put at a v w → Put at (a ++ b) u w
put_front {at} {a} {b} {u} {v} {w} p q = record {
  fits = omega (arith, length-append a b, p.fits);
  whole =
      q.whole
      ∙ ap (λ l. l ++ (a ++ drop (at + length a) v)) front
      ∙ ap (λ l. take at u ++ (a ++ l)) rest
      ∙ ap (λ l. take at u ++ l) (sym (append_assoc a b _));
}
  where
    long : length (take (at + length a) u) ≡ at + length a
    long = length-take-le (at + length a) u (omega (arith, p.fits))

    all : at + length a + length b ≡ at + length (a ++ b)
    all = omega (arith, length-append a b)

    front : take at v ≡ take at u
    front =
        ap (take at) p.whole
        ∙ take-append-le at _ _ (omega (arith, long))
        ∙ take-take at (at + length a) u (omega arith)

    rest : drop (at + length a) v ≡ b ++ drop (at + length (a ++ b)) u
    rest =
        ap (drop (at + length a)) p.whole
        ∙ drop_at (take (at + length a) u) _ _ long
        ∙ ap (λ n. b ++ drop n u) all

-- the same with the position after the text
pub written_then : {at i j : ℕ} {a b u v w : List ℕ} → Written at a u v i → Written i b v w j → Written at (a ++ b) u w j
written_then {at} {i} {j} {a} {b} {u} {v} {w} p q = record {
  put = put_then p.put (rw p.past at q.put);
  past = omega (arith, length-append a b, p.past, q.past);
}

pub written_byte : (at b : ℕ) (u : List ℕ) → at < length u → Written at (b ∷ []) u (set u at b) (at + 1)
written_byte at b u h = record { put = put_byte at b u h; past = refl }

-- the first bytes are the text, the rest are as they were, and there is one such outcome
pub written-first : {text u v : List ℕ} {next : ℕ} → Written 0 text u v next → take next v ≡ text
written-first {text} {u} {v} {next} p = let e : next ≡ length text = omega (arith, p.past) in ap (λ n. take n v) e ∙ put_first p.put

pub written_rest : {text u v : List ℕ} {next : ℕ} → Written 0 text u v next → drop next v ≡ drop next u
written_rest {text} {u} {v} {next} p =
    let e : next ≡ length text = omega (arith, p.past) in
    ap (λ n. drop n v) e ∙ put_rest p.put ∙ ap (λ n. drop n u) (sym e)

pub written_one : {at i j : ℕ} {text u v w : List ℕ} → Written at text u v i → Written at text u w j → (v ≡ w) × (i ≡ j)
written_one p q = (put_one p.put q.put, p.past ∙ sym q.past)

-- a text on its way: what is done is written, and the rest is to come
pub record Going (at : ℕ) (text rest u v : List ℕ) (next : ℕ) : Type 0 where
  pub done : List ℕ
  pub all : text ≡ done ++ rest
  pub written : Written at done u v next

pub going_start : (at : ℕ) (text u : List ℕ) → at + length text ≤ length u → Going at text text u u at
going_start at text u h = record { done = []; all = refl; written = record { put = put_none at u (omega arith); past = omega arith } }

pub going_step : {at i j : ℕ} {text a rest u v w : List ℕ} → Going at text (a ++ rest) u v i → Written i a v w j → Going at text rest u w j
going_step {a = a} {rest = rest} g p = record {
  done = g.done ++ a;
  all = g.all ∙ sym (append_assoc g.done a rest);
  written = written_then g.written p;
}

-- there is room for the rest where there is for all
pub going_room : {at i : ℕ} {text rest u v : List ℕ} → Going at text rest u v i → at + length text ≤ length u → i + length rest ≤ length v
going_room {rest = rest} g h =
    omega (arith, ap length g.all, length-append g.done rest, put_length g.written.put, g.written.past)

-- and for what comes first of the rest
pub going_fits : {at i : ℕ} {text rest u v : List ℕ} (a b : List ℕ) → Going at text rest u v i → rest ≡ a ++ b → at + length text ≤ length u → i + length a ≤ length v
going_fits a b g e h = omega (arith, going_room g h, ap length e, length-append a b)

pub going_as : {at i : ℕ} {text rest rest' u v : List ℕ} → Going at text rest u v i → rest ≡ rest' → Going at text rest' u v i
going_as g e = rw e at g

pub going_long : {at i : ℕ} {text rest u v : List ℕ} → Going at text rest u v i → length v ≡ length u
going_long g = put_length g.written.put

pub going_end : {at i : ℕ} {text u v : List ℕ} → Going at text [] u v i → Written at text u v i
going_end g = rw (g.all, append-nil) g.written

pub going_last : {at i j : ℕ} {text a u v w : List ℕ} → Going at text a u v i → Written i a v w j → Written at text u w j
going_last {a = a} g p = going_end (going_step (going_as g (sym (append-nil a))) p)
