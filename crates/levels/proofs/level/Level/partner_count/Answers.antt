use Rattle.std.proofs.Common.{rules}
use Rattle.levels.proofs.IsCount.{is_count}
use Rattle.levels.proofs.level.Level.partner_count.Goals as goal

pub returns-in-Arc : goal.returns-in-Arc
returns-in-Arc c = record { value = search rules; same = is_count c.args.self _ (search rules) }

pub returns-in-RestrictedPath : goal.returns-in-RestrictedPath
returns-in-RestrictedPath c = record { value = search rules; same = is_count c.args.self _ (search rules) }

pub returns-in-MaxRestrictedPath : goal.returns-in-MaxRestrictedPath
returns-in-MaxRestrictedPath c = record { value = search rules; same = is_count c.args.self _ (search rules) }
