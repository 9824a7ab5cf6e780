-- The road distances to one place, and what `towards` needs to find them.
use Rattle.std.specs.Prelude.{◌≡◌, List, ℕ, ◌≤◌, ◌<◌, length, get_or}
use Rattle.paper.specs.Sizes.{most_places, most_furlongs}
use Rattle.paper.specs.Map.{Map}
use Rattle.paper.specs.Road.{Road, IsD}

-- stands for the distance where there is no road: 2^31 - 1, above every distance
abbrev pub far : ℕ
far = 2147483647

-- t is the road distance to v of each of the n places, and far where there is no road
pub record Towards (m : Map) (n v : ℕ) (t : ℕ → ℕ) : Type 0 where
  pub low : (u : ℕ) → u < n → t u ≤ far
  pub near : (u : ℕ) → u < n → t u < far → IsD m u v (t u)
  pub none : (u : ℕ) → u < n → t u ≡ far → (l : ℕ) → Road m v u l → ⊥

-- the stages stand in the slices, and each chain goes down
pub record Ready (tails lengths previous : List ℕ) (n : ℕ) : Type 0 where
  pub few : n ≤ most_places
  pub lengths_long : length tails ≤ length lengths
  pub previous_long : length tails ≤ length previous
  pub tail_in : (i : ℕ) → i < length tails → get_or tails i 0 < n
  pub furlongs_high : (i : ℕ) → i < length tails → get_or lengths i 0 ≤ most_furlongs
  pub down : (i : ℕ) → i < length tails → get_or previous i 0 ≤ i

-- each of the n chains starts at one of the k stages, or is empty
pub record Entered (last : List ℕ) (n k : ℕ) : Type 0 where
  pub places : n ≤ length last
  pub starts : (p : ℕ) → p < n → get_or last p 0 ≤ k

-- the slices hold the map's stages
pub record Lists (m : Map) (tails lengths : List ℕ) (n : ℕ) : Type 0 where
  pub stages : m.stages ≡ length tails
  pub tail : (i : ℕ) → i < m.stages → m.tail i ≡ get_or tails i 0
  pub furlongs : (i : ℕ) → i < m.stages → m.furlongs i ≡ get_or lengths i 0
  pub head_in : (i : ℕ) → i < m.stages → m.head i < n
