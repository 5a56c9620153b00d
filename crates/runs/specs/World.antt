-- What calls hand on from one to the next: the chip, and the buffers that the host lends.
use Rattle.std.specs.Prelude.{Bool, List, ℕ}
use Rattle.editors.specs.declared.Editor.{Editor}
use Rattle.editors.specs.Table.{pick}
use Rattle.sound.specs.Line.{channel_of}
use Rattle.chip.specs.declared.Chip.{Chip}

-- RAM, which placing alone writes; the pixel store; the places of each editor's undo record; those of the placed lists
pub record Buffers : Type 0 where
  pub ram : List ℕ
  pub store : List ℕ
  pub song : List ℕ
  pub picture : List ℕ
  pub slots : List ℕ

pub record World : Type 0 where
  pub chip : Chip
  pub lent : Buffers

-- the places of an editor's record
abbrev pub places_of : Buffers → Editor → List ℕ
places_of b e = pick e b.song b.picture

-- with another store, and other places of this editor's
abbrev pub with_edited : Buffers → Editor → List ℕ → List ℕ → Buffers
with_edited b e store places =
    record { ram = b.ram; store = store; song = pick e places b.song; picture = pick e b.picture places; slots = b.slots }

-- with another RAM, and other places of lists
abbrev pub with_room : Buffers → List ℕ → List ℕ → Buffers
with_room b ram slots = record { ram = ram; store = b.store; song = b.song; picture = b.picture; slots = slots }

-- whether channel n is muted
abbrev pub muted_of : World → ℕ → Bool
muted_of w n = (channel_of w.chip.sound.channels n).muted

-- a chip with these buffers
abbrev pub world_of : Chip → List ℕ → List ℕ → List ℕ → List ℕ → List ℕ → World
world_of c ram store song picture slots =
    record { chip = c; lent = record { ram = ram; store = store; song = song; picture = picture; slots = slots } }

-- with another chip
abbrev pub with_chip : World → Chip → World
with_chip w c = record { chip = c; lent = w.lent }

-- with another chip, store and places: what an editor's page writes and undo change
abbrev pub edited : World → Editor → Chip → List ℕ → List ℕ → World
edited w e c store places = record { chip = c; lent = with_edited w.lent e store places }

-- with another chip, RAM and places of lists: what placing changes
abbrev pub roomed : World → Chip → List ℕ → List ℕ → World
roomed w c ram slots = record { chip = c; lent = with_room w.lent ram slots }

-- a buffer that the host lends from here on
pub data Loan : Type 0 where
  lent_ram : List ℕ → Loan
  lent_store : List ℕ → Loan
  lent_places : Editor → List ℕ → Loan
  lent_slots : List ℕ → Loan

abbrev pub lent_by : Loan → Buffers → Buffers
lent_by (lent_ram l) b = with_room b l b.slots
lent_by (lent_store l) b = record { ram = b.ram; store = l; song = b.song; picture = b.picture; slots = b.slots }
lent_by (lent_places e l) b = with_edited b e b.store l
lent_by (lent_slots l) b = with_room b b.ram l
