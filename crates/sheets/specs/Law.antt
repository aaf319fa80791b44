-- A written junction reads back as itself, and an accepted sheet is the only one for its junction and both editions.
-- OnlyTexts: an accepted sheet is the text of the junction that was read, which the grid book's check accepts
-- ReadsBack: the text of a right junction is accepted, and read as that junction
-- OnlyOne: two accepted sheets that say the same are the same bytes
-- Checked: a junction is right exactly when the edition asked for is within its limits and the grid book's check accepts the rest
-- WrittenBack: what the writer writes of a junction is read back as that junction
-- FirstFaulty: a refused sheet names its first faulty line: the lines before it begin the sheet of some junction, and with it no
-- junction's sheet begins so; where it is one past the last ended line, the sheet could have gone on there, and did not
-- BlankElse d: 0 stands where nothing was given
use Rattle.std.specs.Prelude.{◌≡◌, ℕ, ◌+◌, ◌-◌, ◌≤◌, true, ◌&&◌, List, ◌++◌, length, take, is_ok, Ok, Err, ◌≢◌, slice_index}
use Rattle.meaning.specs.Grid.{grid_check, rows_for}
use Rattle.meaning.specs.Limits.{within}
use Rattle.meaning.specs.declared.parts.GridParts.{GridParts}
use Rattle.meaning.specs.Refusals.{place_of}
use Rattle.meaning.specs.declared.refusal.Refusal.{Refusal}
use Rattle.sheets.specs.Fields.{cut}
use Rattle.sheets.specs.declared.draft.Draft.{Draft}
use Rattle.sheets.specs.Texts.{Sheet, Same, lines_of, is_right, sheet_of, sheet_of_parts, text_of}
use Rattle.sheets.specs.Reading.{reading, reading_into}
use Rattle.sheets.specs.Writing.{writing}

pub record BlankElse (d : Draft) : Type 0 where
  pub counts_long : length d.counts ≡ 32
  pub links_long : length d.links ≡ 32
  pub rows_long : length d.rows ≡ 15872
  pub counts : (i : ℕ) → d.opening.items ≤ i → slice_index d.counts i ≡ 0
  pub links : (i : ℕ) → d.opening.items ≤ i → slice_index d.links i ≡ 0
  pub rows : (k : ℕ) → rows_for d.opening.items ≤ k → slice_index d.rows k ≡ 0

pub record Accepted (b : List ℕ) (d : Draft) : Type 0 where
  pub text : b ≡ text_of (sheet_of d)
  pub right : is_right (sheet_of d) ≡ true
  pub blank : BlankElse d

abbrev pub OnlyTexts : Type 0
OnlyTexts = (b : List ℕ) (d : Draft) → reading b ≡ Ok d → Accepted b d

abbrev pub ReadsBack : Type 0
ReadsBack = (s : Sheet) → is_right s ≡ true → (d : Draft) × (reading (text_of s) ≡ Ok d) × Same s (sheet_of d)

abbrev pub Checked : Type 0
Checked = (asked : ℕ) (p : GridParts) → is_right (sheet_of_parts asked p) ≡ (within asked 9999 && is_ok (grid_check p))

abbrev pub WrittenBack : Type 0
WrittenBack = (asked room : ℕ) (p : GridParts) (t : List ℕ) → writing asked p room ≡ Ok t → (counts links rows : ℕ) → 32 ≤ counts → 32 ≤ links → 15872 ≤ rows
    → (d : Draft) × (reading_into t counts links rows ≡ Ok d) × Same (sheet_of_parts asked p) (sheet_of d)

abbrev pub OnlyOne : Type 0
OnlyOne = (b c : List ℕ) (d e : Draft) → reading b ≡ Ok d → reading c ≡ Ok e → Same (sheet_of d) (sheet_of e) → b ≡ c

pub record FirstFaulty (b : List ℕ) (e : Refusal) : Type 0 where
  pub least : 1 ≤ place_of e
  pub most : place_of e ≤ 1 + length (cut b).lines
  pub before : (s : Sheet) × (rest : List (List ℕ)) × (is_right s ≡ true) × (lines_of s ≡ take (place_of e - 1) (cut b).lines ++ rest)
  pub here : place_of e ≤ length (cut b).lines → (s : Sheet) (rest : List (List ℕ)) → is_right s ≡ true → lines_of s ≢ take (place_of e) (cut b).lines ++ rest

abbrev pub Faults : Type 0
Faults = (b : List ℕ) (e : Refusal) → reading b ≡ Err e → FirstFaulty b e
