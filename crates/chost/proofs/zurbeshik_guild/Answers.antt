use mathlib.Core.Logic.{inl}
use Rattle.chost.proofs.zurbeshik_guild.Goals as goal

pub returns-in-Ok : goal.returns-in-Ok
returns-in-Ok c = inl (c.read_statement.new.statement, c.in-Ok.ensures, c.pack.ensures)
