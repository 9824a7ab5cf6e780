-- What the layout of a sheet comes to.
use Rattle.std.specs.Prelude.{ℕ, zero, suc, ◌+◌, ◌*◌, ◌≤◌, ◌≡◌, List}
use Rattle.paper.specs.declared.Counts.{Counts}
use Rattle.paper.specs.Served.{Served, refused, served}
use Rattle.paper.specs.Sizes.{place_words, stage_words, block_words, most_places, most_stages, most_blocks}
use Rattle.paper.specs.Sheet.{word, stages_at, blocks_at, offices_at}
use Rattle.paper.specs.Layout.{sections, layout}

-- how many records each section of the sheet has
unfoldable pub counts_of : List ℕ → Counts
unfolding offices_at
counts_of s = record { places = word s 0; stages = word s (stages_at s); blocks = word s (blocks_at s); offices = word s (offices_at s) }

-- the counts where nothing is due, and else the number that is
abbrev pub laid_by : List ℕ → ℕ → Served Counts
laid_by s zero = served (counts_of s)
laid_by s (suc n) = refused (suc n)

unfoldable pub laid_of : List ℕ → Served Counts
laid_of s = laid_by s (layout s)

-- the same of one section
abbrev pub counted_by : ℕ → ℕ → Served ℕ
counted_by n zero = served n
counted_by n (suc d) = refused (suc d)

-- all four sections of the sheet are whole, and have these counts
pub record Sectioned (s : List ℕ) (c : Counts) : Type 0 where
  pub whole : sections s ≡ 0
  pub counts : c ≡ counts_of s

-- each count of the ground is at most its section's most
pub record Within (c : Counts) : Type 0 where
  pub places : c.places ≤ most_places
  pub stages : c.stages ≤ most_stages
  pub blocks : c.blocks ≤ most_blocks

-- the words at which the counts stand, by the counts
abbrev pub stages_from : Counts → ℕ
stages_from c = 1 + place_words * c.places

abbrev pub blocks_from : Counts → ℕ
blocks_from c = stages_from c + 1 + stage_words * c.stages

abbrev pub offices_from : Counts → ℕ
offices_from c = blocks_from c + 1 + block_words * c.blocks

-- the byte at which the office records begin
abbrev pub list_from : Counts → ℕ
list_from c = 4 * (offices_from c + 1)
