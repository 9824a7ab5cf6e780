-- A layout with nothing due: the sections, and what the four tests tell.
use Prim.Native.Nat.{ℕ, suc, ◌+◌, ◌*◌, ◌%◌, ◌^◌, ◌≤◌, ◌<◌}
use native.Mathlib.Omega.{arith}
use native.Mathlib.Decide.{dec_lt}
use mathlib.Core.Path.{◌≡◌, sym}
use mathlib.Core.Bool.{Bool, true, not}
use mathlib.Core.List.{List}
use lib.Dec.{leb, ltb, eqb}
use lib.ListN.{length, get_or, get_or-eq_default}
use borrow.Author.Tests.{leb-true, ltb-true, eqb-true, eqb-false, eq-eqb, not-true}
use Rattle.paper.specs.Sizes.{place_words, stage_words, block_words, office_words, most_places, most_stages, most_blocks, most_offices, grid_side, top_level, most_furlongs, most_leaving}
use Rattle.paper.specs.Test.{both, every, apart, due, or_else}
use Rattle.paper.specs.Order.{Before}
use Rattle.paper.specs.Map.{Map, Offices}
use Rattle.paper.specs.Sheet.{word, stages_at, blocks_at, offices_at, map_of, offices_of}
use Rattle.paper.specs.Stage.{leaving}
use Rattle.paper.proofs.LaidOut.{Grounded, LaidOut}
use Rattle.paper.specs.Ground.{Lawful}
use Rattle.paper.specs.Layout.{Bytes, words_in, section, ends_at, sections, sharing, sharing_number, place_holds, places_hold, stage_holds, stage_ascends, stages_hold, block_lies, block_holds, block_ascends, blocks_lie, blocks_hold, offices_hold, layout}
use Rattle.paper.proofs.Test.{true_false, both_true, both_left, both_right, either_by, every_true, every_of, apart_true, due_true, or_left, or_right}
use Rattle.paper.proofs.Leader.{before_true}
use Rattle.paper.proofs.Stages.{chain, stage_under, stage_leaves}

-- a byte of the sheet, or 0 beyond its end
byte_lt : (s : List ℕ) → Bytes s → (i : ℕ) → get_or s i 0 < 256
byte_lt s h i = go (dec_lt i (length s))
  where
    go : Dec (i < length s) → get_or s i 0 < 256
    go (yes p) = h i p
    go (no p) = omega (arith, get_or-eq_default s 0 {n = i} (omega arith))

pub word_lt : (s : List ℕ) → Bytes s → (i : ℕ) → word s i < 2 ^ 32
unfolding word
word_lt s h i = omega (arith, byte_lt s h (4 * i), byte_lt s h (4 * i + 1), byte_lt s h (4 * i + 2), byte_lt s h (4 * i + 3))

-- a section whose count stands at word a
pub record Stands (s : List ℕ) (a from to size : ℕ) : Type 0 where
  pub here : a < words_in s
  pub least : from ≤ word s a
  pub most : word s a ≤ to
  pub fits : a + 1 + size * word s a ≤ words_in s

pub stands : (s : List ℕ) (a least most size : ℕ) → section s a least most size ≡ 0 → Stands s a least most size
unfolding section
stands s a least most size h =
    let p : Bool = ltb a (words_in s) in
    let l : Bool = leb least (word s a) in
    let r : Bool = leb (word s a) most in
    let f : Bool = leb (a + 1 + size * word s a) (words_in s) in
    let h' : or_else (due (both l r) 2) (due f 1) ≡ 0 = or_right (due p 1) _ h in
    let range : both l r ≡ true = due_true (both l r) 2 (omega arith) (or_left (due (both l r) 2) (due f 1) h') in
    record {
      here = ltb-true _ _ (due_true p 1 (omega arith) (or_left (due p 1) _ h));
      least = leb-true _ _ (both_left l r range);
      most = leb-true _ _ (both_right l r range);
      fits = leb-true _ _ (due_true f 1 (omega arith) (or_right (due (both l r) 2) (due f 1) h'));
    }

-- each test of the sections
pub record Parts (s : List ℕ) : Type 0 where
  pub fours : length s % 4 ≡ 0
  pub places : section s 0 1 most_places place_words ≡ 0
  pub stages : section s (stages_at s) 0 most_stages stage_words ≡ 0
  pub blocks : section s (blocks_at s) 0 most_blocks block_words ≡ 0
  pub offices : section s (offices_at s) 0 most_offices office_words ≡ 0
  pub ends : ends_at s ≡ words_in s

pub parts : (s : List ℕ) → sections s ≡ 0 → Parts s
unfolding sections
parts s h =
    let f : ℕ = due (eqb (length s % 4) 0) 1 in
    let a : ℕ = section s 0 1 most_places place_words in
    let b : ℕ = section s (stages_at s) 0 most_stages stage_words in
    let c : ℕ = section s (blocks_at s) 0 most_blocks block_words in
    let d : ℕ = section s (offices_at s) 0 most_offices office_words in
    let e : ℕ = due (eqb (ends_at s) (words_in s)) 1 in
    let h₁ : or_else a (or_else b (or_else c (or_else d e))) ≡ 0 = or_right f _ h in
    let h₂ : or_else b (or_else c (or_else d e)) ≡ 0 = or_right a _ h₁ in
    let h₃ : or_else c (or_else d e) ≡ 0 = or_right b _ h₂ in
    let h₄ : or_else d e ≡ 0 = or_right c _ h₃ in
    record {
      fours = eqb-true _ _ (due_true (eqb (length s % 4) 0) 1 (omega arith) (or_left f _ h));
      places = or_left a _ h₁;
      stages = or_left b _ h₂;
      blocks = or_left c _ h₃;
      offices = or_left d _ h₄;
      ends = eqb-true _ _ (due_true (eqb (ends_at s) (words_in s)) 1 (omega arith) (or_right d e h₄));
    }

-- the four sections, and nothing left over
pub record Whole (s : List ℕ) : Type 0 where
  pub fours : length s % 4 ≡ 0
  pub places : Stands s 0 1 most_places place_words
  pub stages : Stands s (stages_at s) 0 most_stages stage_words
  pub blocks : Stands s (blocks_at s) 0 most_blocks block_words
  pub offices : Stands s (offices_at s) 0 most_offices office_words
  pub ends : ends_at s ≡ words_in s

pub whole : (s : List ℕ) → sections s ≡ 0 → Whole s
whole s h =
    let P : Parts s = parts s h in
    record {
      fours = P.fours;
      places = stands s 0 1 most_places place_words P.places;
      stages = stands s (stages_at s) 0 most_stages stage_words P.stages;
      blocks = stands s (blocks_at s) 0 most_blocks block_words P.blocks;
      offices = stands s (offices_at s) 0 most_offices office_words P.offices;
      ends = P.ends;
    }

-- each test of a layout with nothing due
pub record Passed (s : List ℕ) : Type 0 where
  pub whole : Whole s
  pub places : places_hold (map_of s) ≡ true
  pub stages : stages_hold (map_of s) ≡ true
  pub blocks : blocks_hold (map_of s) ≡ true
  pub offices : offices_hold (map_of s) (offices_of s) ≡ true

pub passed : (s : List ℕ) → layout s ≡ 0 → Passed s
unfolding layout
passed s h =
    let p : Bool = places_hold (map_of s) in
    let t : Bool = stages_hold (map_of s) in
    let b : Bool = blocks_hold (map_of s) in
    let o : Bool = offices_hold (map_of s) (offices_of s) in
    let h₁ : or_else (due p 3) (or_else (due t 4) (or_else (due b 5) (due o 6))) ≡ 0 = or_right (sections s) _ h in
    let h₂ : or_else (due t 4) (or_else (due b 5) (due o 6)) ≡ 0 = or_right (due p 3) _ h₁ in
    let h₃ : or_else (due b 5) (due o 6) ≡ 0 = or_right (due t 4) _ h₂ in
    record {
      whole = whole s (or_left (sections s) _ h);
      places = due_true p 3 (omega arith) (or_left (due p 3) _ h₁);
      stages = due_true t 4 (omega arith) (or_left (due t 4) _ h₂);
      blocks = due_true b 5 (omega arith) (or_left (due b 5) _ h₃);
      offices = due_true o 6 (omega arith) (or_right (due b 5) _ h₃);
    }

-- place i lies on the grid and has a gazetteer number, and no earlier place shares its cell or its number
pub record PlaceOk (m : Map) (i : ℕ) : Type 0 where
  pub x : m.x i < grid_side
  pub y : m.y i < grid_side
  pub numbered : 1 ≤ m.gazetteer i
  pub apart : (j : ℕ) → j < i → m.x j ≡ m.x i → m.y j ≡ m.y i → ⊥
  pub unlike : (j : ℕ) → j < i → m.gazetteer j ≡ m.gazetteer i → ⊥

pub place_ok : (m : Map) → places_hold m ≡ true → (i : ℕ) → i < m.places → PlaceOk m i
unfolding places_hold place_holds
place_ok m h i p =
    let x : Bool = ltb (m.x i) grid_side in
    let y : Bool = ltb (m.y i) grid_side in
    let some : Bool = not (eqb (m.gazetteer i) 0) in
    let each : Bool = every m.places (place_holds m) in
    let cells : Bool = apart m.places (sharing m) in
    let numbers : Bool = apart m.places (sharing_number m) in
    let hi : both (both x y) some ≡ true = every_true m.places (place_holds m) (both_left each (both cells numbers) h) i p in
    let xy : both x y ≡ true = both_left (both x y) some hi in
    let unshared : both cells numbers ≡ true = both_right each (both cells numbers) h in
    let other : m.gazetteer i ≡ 0 → ⊥ = eqb-false _ _ (not-true (eqb (m.gazetteer i) 0) (both_right (both x y) some hi)) in
    record {
      x = ltb-true _ _ (both_left x y xy);
      y = ltb-true _ _ (both_right x y xy);
      numbered = elim (dec_lt 0 (m.gazetteer i)) [ yes l ↦ l | no l ↦ absurd (other (omega arith)) ];
      apart = λ j q a b. true_false (both_true (eqb (m.x j) (m.x i)) (eqb (m.y j) (m.y i)) (eq-eqb _ _ a) (eq-eqb _ _ b))
          (apart_true m.places (sharing m) (both_left cells numbers unshared) i j p q);
      unlike = λ j q e. true_false (eq-eqb (m.gazetteer j) (m.gazetteer i) e) (apart_true m.places (sharing_number m) (both_right cells numbers unshared) i j p q);
    }

pub record StageOk (m : Map) (i : ℕ) : Type 0 where
  pub tail : m.tail i < m.places
  pub head : m.head i < m.places
  pub onward : m.tail i ≡ m.head i → ⊥
  pub long : 1 ≤ m.furlongs i
  pub short : m.furlongs i ≤ most_furlongs

stage_one : (m : Map) (i : ℕ) → stage_holds m i ≡ true → StageOk m i
unfolding stage_holds
stage_one m i h =
    let t : Bool = ltb (m.tail i) m.places in
    let g : Bool = ltb (m.head i) m.places in
    let n : Bool = not (eqb (m.tail i) (m.head i)) in
    let a : Bool = leb 1 (m.furlongs i) in
    let b : Bool = leb (m.furlongs i) most_furlongs in
    let tg : both t g ≡ true = both_left (both t g) _ h in
    let nab : both n (both a b) ≡ true = both_right (both t g) _ h in
    let ab : both a b ≡ true = both_right n (both a b) nab in
    record {
      tail = ltb-true _ _ (both_left t g tg);
      head = ltb-true _ _ (both_right t g tg);
      onward = eqb-false _ _ (not-true _ (both_left n (both a b) nab));
      long = leb-true _ _ (both_left a b ab);
      short = leb-true _ _ (both_right a b ab);
    }

pub record StagesOk (m : Map) : Type 0 where
  pub each : (i : ℕ) → i < m.stages → StageOk m i
  pub sorted : (i j : ℕ) → i < j → j < m.stages → Before (m.tail i) (m.head i) (m.tail j) (m.head j)
  pub few : (u : ℕ) → u < m.places → leaving m u ≤ most_leaving

pub stages_ok : (m : Map) → stages_hold m ≡ true → StagesOk m
unfolding stages_hold stage_ascends
stages_ok m h =
    let e : Bool = every m.stages (stage_holds m) in
    let a : Bool = every m.stages (stage_ascends m) in
    let f : Bool = every m.places (λ u. leb (leaving m u) most_leaving) in
    let af : both a f ≡ true = both_right e (both a f) h in
    record {
      each = λ i p. stage_one m i (every_true m.stages (stage_holds m) (both_left e (both a f) h) i p);
      sorted = chain (λ i j. Before (m.tail i) (m.head i) (m.tail j) (m.head j))
          (λ i j k p q. record { le = omega arith; tie = λ r. omega (arith, p.tie (omega arith), q.tie (omega arith)) }) m.stages (next (both_left a f af));
      few = λ u p. leb-true _ _ (every_true m.places (λ u. leb (leaving m u) most_leaving) (both_right a f af) u p);
    }
  where
    next : every m.stages (stage_ascends m) ≡ true → (i : ℕ) → suc i < m.stages → Before (m.tail i) (m.head i) (m.tail (suc i)) (m.head (suc i))
    next h i p = before_true _ _ _ _ (every_true m.stages (stage_ascends m) h (suc i) p)

pub record BlockOk (m : Map) (i : ℕ) : Type 0 where
  pub owner : m.owner i < m.places
  pub level : m.level i ≤ top_level
  pub code : m.code i < 4 ^ top_level
  pub fit : m.code i % 4 ^ m.level i ≡ 0
  pub ordered : m.low i ≤ m.high i

pub block_one : (m : Map) (i : ℕ) → block_lies m i ≡ true → BlockOk m i
unfolding block_lies
block_one m i h =
    let o : Bool = ltb (m.owner i) m.places in
    let l : Bool = leb (m.level i) top_level in
    let c : Bool = ltb (m.code i) (4 ^ top_level) in
    let f : Bool = eqb (m.code i % 4 ^ m.level i) 0 in
    let r : Bool = leb (m.low i) (m.high i) in
    let ol : both o l ≡ true = both_left (both o l) _ h in
    let rest : both (both c f) r ≡ true = both_right (both o l) _ h in
    let cf : both c f ≡ true = both_left (both c f) r rest in
    record {
      owner = ltb-true _ _ (both_left o l ol);
      level = leb-true _ _ (both_right o l ol);
      code = ltb-true _ _ (both_left c f cf);
      fit = eqb-true _ _ (both_right c f cf);
      ordered = leb-true _ _ (both_right (both c f) r rest);
    }

-- block c comes after block b
pub record Later (m : Map) (b c : ℕ) : Type 0 where
  pub grouped : m.owner b ≤ m.owner c
  pub parted : m.owner b ≡ m.owner c → m.code b + 4 ^ m.level b ≤ m.code c

pub record BlocksOk (m : Map) : Type 0 where
  pub each : (b : ℕ) → b < m.blocks → BlockOk m b
  pub later : (b c : ℕ) → b < c → c < m.blocks → Later m b c

pub blocks_ok : (m : Map) → blocks_lie m ≡ true → BlocksOk m
unfolding blocks_lie block_ascends
blocks_ok m h =
    let e : Bool = every m.blocks (block_lies m) in
    let a : Bool = every m.blocks (block_ascends m) in
    record {
      each = λ i p. block_one m i (every_true m.blocks (block_lies m) (both_left e a h) i p);
      later = chain (Later m)
          (λ i j k p q. record { grouped = omega arith; parted = λ r. omega (arith, p.parted (omega arith), q.parted (omega arith)) })
          m.blocks (next (both_right e a h));
    }
  where
    next : every m.blocks (block_ascends m) ≡ true → (i : ℕ) → suc i < m.blocks → Later m i (suc i)
    next h i p =
        let s : Bool = eqb (m.owner i) (m.owner (suc i)) in
        let l : Bool = leb (m.code i + 4 ^ m.level i) (m.code (suc i)) in
        either_by (ltb (m.owner i) (m.owner (suc i))) (both s l) (every_true m.blocks (block_ascends m) h (suc i) p)
        (λ e. let lt : m.owner i < m.owner (suc i) = ltb-true _ _ e in record { grouped = omega arith; parted = λ r. absurd (omega arith) })
        (λ e. let same : m.owner i ≡ m.owner (suc i) = eqb-true _ _ (both_left s l e) in record { grouped = omega arith; parted = λ r. leb-true _ _ (both_right s l e) })

-- blocks that hold lie as they must, and their colours are those of stages
module _ (m : Map) (h : blocks_hold m ≡ true) where
  block-holds : (b : ℕ) → b < m.blocks → block_holds m b ≡ true
  unfolding blocks_hold
  block-holds b p = every_true m.blocks (block_holds m) (both_left (every m.blocks (block_holds m)) (every m.blocks (block_ascends m)) h) b p

  pub blocks_lie_lem : blocks_lie m ≡ true
  unfolding blocks_lie blocks_hold block_holds
  blocks_lie_lem =
      both_true (every m.blocks (block_lies m)) (every m.blocks (block_ascends m))
      (every_of m.blocks (block_lies m) (λ b p. both_left (block_lies m b) (ltb (m.colour b) (leaving m (m.owner b))) (block-holds b p)))
      (both_right (every m.blocks (block_holds m)) (every m.blocks (block_ascends m)) h)

  block-colour : (b : ℕ) → b < m.blocks → m.colour b < leaving m (m.owner b)
  unfolding block_holds
  block-colour b p = ltb-true _ _ (both_right (block_lies m b) (ltb (m.colour b) (leaving m (m.owner b))) (block-holds b p))

-- places and blocks that keep their rules
pub grounded : (m : Map) → 1 ≤ m.places → m.places ≤ most_places → m.blocks ≤ most_blocks → ((b : ℕ) → b < m.blocks → m.high b < 2 ^ 32)
    → places_hold m ≡ true → blocks_lie m ≡ true → Grounded m
grounded m some places blocks ratios P h =
    let B : BlocksOk m = blocks_ok m h in
    record {
      some = some;
      places = places;
      blocks = blocks;
      xs = λ v p. (place_ok m P v p).x;
      ys = λ v p. (place_ok m P v p).y;
      apart = λ u v l p. (place_ok m P v p).apart u l;
      numbered = λ v p. (place_ok m P v p).numbered;
      unlike = λ u v l p. (place_ok m P v p).unlike u l;
      owners = λ b p. (B.each b p).owner;
      levels = λ b p. (B.each b p).level;
      codes = λ b p. (B.each b p).code;
      fits = λ b p. (B.each b p).fit;
      ordered = λ b p. (B.each b p).ordered;
      ratios = ratios;
      grouped = λ b c l p. (B.later b c l p).grouped;
      parted = λ b c l p. (B.later b c l p).parted;
    }

-- a gazetteer number is that of one place
pub gazetteer_one : {m : Map} → Grounded m → (u v : ℕ) → u < m.places → v < m.places → m.gazetteer u ≡ m.gazetteer v → u ≡ v
gazetteer_one G u v hu hv e = elim (dec_lt u v) [
  | yes l ↦ absurd (G.unlike u v l hv e)
  | no l ↦ elim (dec_lt v u) [ yes g ↦ absurd (G.unlike v u g hu (sym e)) | no g ↦ omega arith ]
]

-- a map that keeps the rules is laid out
pub lawful_laid : {m : Map} → Lawful m → LaidOut m
lawful_laid {m} L =
    let S : StagesOk m = stages_ok m L.staged in
    let sorted : ((i j : ℕ) → i < j → j < m.stages → m.tail i ≤ m.tail j) = λ i j p q. (S.sorted i j p q).le in
    let hues : ((b : ℕ) → b < m.blocks → m.colour b < leaving m (m.owner b)) = block-colour m L.blocked in
    record {
      ground = grounded m L.some L.places L.blocks L.ratios L.placed (blocks_lie_lem m L.blocked);
      gazetteer = L.gazetteer;
      stages = L.stages;
      tails = λ i p. (S.each i p).tail;
      heads = λ i p. (S.each i p).head;
      onward = λ i p. (S.each i p).onward;
      long = λ i p. (S.each i p).long;
      short = λ i p. (S.each i p).short;
      sorted = S.sorted;
      few = S.few;
      hues = hues;
      colours = λ b p. stage_under m sorted (m.owner b) (m.colour b) (hues b p);
      leaves = λ b p. stage_leaves m sorted (m.owner b) (m.colour b) (hues b p);
    }

-- each office stands at a place
pub offices_stand : (m : Map) (o : Offices) → offices_hold m o ≡ true → (i : ℕ) → i < o.count → o.stand i < m.places
unfolding offices_hold
offices_stand m o h i p = ltb-true _ _ (every_true o.count (λ i. ltb (o.stand i) m.places) h i p)

-- the gazetteer numbers and the ratios of a sheet are words
pub gazetteer_lt : (s : List ℕ) → Bytes s → (v : ℕ) → (map_of s).gazetteer v < 2 ^ 32
unfolding map_of
gazetteer_lt s bytes v = word_lt s bytes (3 + place_words * v)

pub ratio_lt : (s : List ℕ) → Bytes s → (b : ℕ) → (map_of s).high b < 2 ^ 32
unfolding map_of
ratio_lt s bytes b = word_lt s bytes (blocks_at s + 6 + block_words * b)

-- a sheet with nothing due has a map that keeps the rules
pub lawful : (s : List ℕ) → Bytes s → layout s ≡ 0 → Lawful (map_of s)
unfolding map_of
lawful s bytes h =
    let P : Passed s = passed s h in
    record {
      some = P.whole.places.least;
      places = P.whole.places.most;
      stages = P.whole.stages.most;
      blocks = P.whole.blocks.most;
      gazetteer = λ v p. gazetteer_lt s bytes v;
      ratios = λ b p. ratio_lt s bytes b;
      placed = P.places;
      staged = P.stages;
      blocked = P.blocks;
    }

pub offices_few : (s : List ℕ) → layout s ≡ 0 → (offices_of s).count ≤ most_offices
unfolding offices_of
offices_few s h = (passed s h).whole.offices.most

pub laid_out : (s : List ℕ) → Bytes s → layout s ≡ 0 → LaidOut (map_of s)
laid_out s bytes h = lawful_laid (lawful s bytes h)
