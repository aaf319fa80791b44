-- What the writer answers and writes: the text of a junction, or the refusal due.
-- writing asked p room: the text, for a buffer of room bytes; or the grid check's refusal, then 10, then 12
-- length_of w: what the writer answers; written_to w out: what a buffer that held out holds after it
use Rattle.std.specs.Prelude.{ℕ, if◌then◌else◌, ◌&&◌, List, ◌++◌, length, drop, Ok, Err, Result, nat_le}
use Rattle.std.specs.Result.{result_and}
use Rattle.meaning.specs.Grid.{grid_check}
use Rattle.meaning.specs.Limits.{within}
use Rattle.meaning.specs.declared.parts.GridParts.{GridParts}
use Rattle.meaning.specs.declared.refusal.Refusal.{Refusal}
use Rattle.meaning.specs.declared.refusal.Refusal.TheVariants.{OutOfLimits, MemoryShort}
use Rattle.sheets.specs.Texts.{sheet_of_parts, text_of}

abbrev pub fitting : List ℕ → ℕ → Result (List ℕ) Refusal
fitting t room = if nat_le (length t) 65536 && nat_le (length t) room then Ok t else Err MemoryShort

unfoldable pub writing : ℕ → GridParts → ℕ → Result (List ℕ) Refusal
writing asked p room =
    result_and (grid_check p)
    (if within asked 9999 then fitting (text_of (sheet_of_parts asked p)) room
    else Err (OutOfLimits 0))

abbrev pub length_of : Result (List ℕ) Refusal → Result ℕ Refusal
length_of (Ok t) = Ok (length t)
length_of (Err e) = Err e

abbrev pub written_to : Result (List ℕ) Refusal → List ℕ → List ℕ
written_to (Ok t) out = t ++ drop (length t) out
written_to (Err e) out = out
