-- Each refusal has one number, one place and one reason in words; contracts read them here.
-- number_of: the number by which reports name the refusal
-- place_of: the line of a sheet, or the item with nothing left; 0 elsewhere
-- reason_of: the bytes of the reason that a person reads
use Rattle.std.specs.Prelude.{ℕ, List, codes}
use Rattle.meaning.specs.declared.refusal.Refusal.{Refusal}
use Rattle.meaning.specs.declared.refusal.Refusal.TheVariants.{NoSuchItem, NoSuchOption, AlreadyStruck, NotStruck, NoSuchLevel, NoRoom, Barred, NothingConsistent, Malformed, OutOfLimits, OutOfTurn, MemoryShort, BooksDoNotFit}

abbrev pub number_of : Refusal → ℕ
number_of NoSuchItem = 1
number_of NoSuchOption = 2
number_of AlreadyStruck = 3
number_of NotStruck = 4
number_of NoSuchLevel = 5
number_of NoRoom = 6
number_of Barred = 7
number_of (NothingConsistent item) = 8
number_of (Malformed line) = 9
number_of (OutOfLimits line) = 10
number_of (OutOfTurn line) = 11
number_of MemoryShort = 12
number_of BooksDoNotFit = 13

abbrev pub place_of : Refusal → ℕ
place_of NoSuchItem = 0
place_of NoSuchOption = 0
place_of AlreadyStruck = 0
place_of NotStruck = 0
place_of NoSuchLevel = 0
place_of NoRoom = 0
place_of Barred = 0
place_of (NothingConsistent item) = item
place_of (Malformed line) = line
place_of (OutOfLimits line) = line
place_of (OutOfTurn line) = line
place_of MemoryShort = 0
place_of BooksDoNotFit = 0

abbrev pub reason_of : Refusal → List ℕ
reason_of NoSuchItem = codes "no such item"
reason_of NoSuchOption = codes "no such option"
reason_of AlreadyStruck = codes "option already struck"
reason_of NotStruck = codes "option not struck"
reason_of NoSuchLevel = codes "level above 2"
reason_of NoRoom = codes "count buffer short, or a waiting list full, too small or not empty"
reason_of Barred = codes "session barred: asked edition is not the book's"
reason_of (NothingConsistent item) = codes "nothing consistent"
reason_of (Malformed line) = codes "line absent, unended or malformed"
reason_of (OutOfLimits line) = codes "number outside its limits"
reason_of (OutOfTurn line) = codes "line out of turn"
reason_of MemoryShort = codes "memory short or sheet too long"
reason_of BooksDoNotFit = codes "books do not fit"
