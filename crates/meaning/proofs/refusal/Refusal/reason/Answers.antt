-- The search stops short of long texts, so these are shown by the arm's own equation.
use Rattle.std.proofs.Common.{sym, ap}
use Rattle.meaning.specs.Refusals.{reason_of}
use Rattle.meaning.proofs.refusal.Refusal.reason.Goals as goal

pub returns-in-NoSuchItem : goal.returns-in-NoSuchItem
returns-in-NoSuchItem c = sym (ap reason_of c.in-NoSuchItem.is)

pub returns-in-AlreadyStruck : goal.returns-in-AlreadyStruck
returns-in-AlreadyStruck c = sym (ap reason_of c.in-AlreadyStruck.is)

pub returns-in-NoSuchLevel : goal.returns-in-NoSuchLevel
returns-in-NoSuchLevel c = sym (ap reason_of c.in-NoSuchLevel.is)

pub returns-in-NoRoom : goal.returns-in-NoRoom
returns-in-NoRoom c = sym (ap reason_of c.in-NoRoom.is)

pub returns-in-Barred : goal.returns-in-Barred
returns-in-Barred c = sym (ap reason_of c.in-Barred.is)

pub returns-in-NothingConsistent : goal.returns-in-NothingConsistent
returns-in-NothingConsistent c = sym (ap reason_of c.in-NothingConsistent.is)

pub returns-in-Malformed : goal.returns-in-Malformed
returns-in-Malformed c = sym (ap reason_of c.in-Malformed.is)

pub returns-in-OutOfLimits : goal.returns-in-OutOfLimits
returns-in-OutOfLimits c = sym (ap reason_of c.in-OutOfLimits.is)

pub returns-in-OutOfTurn : goal.returns-in-OutOfTurn
returns-in-OutOfTurn c = sym (ap reason_of c.in-OutOfTurn.is)

pub returns-in-MemoryShort : goal.returns-in-MemoryShort
returns-in-MemoryShort c = sym (ap reason_of c.in-MemoryShort.is)
