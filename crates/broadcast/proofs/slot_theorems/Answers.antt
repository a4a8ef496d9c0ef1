use Rattle.std.proofs.Common.{refl}
use Rattle.broadcast.proofs.Argument.{slot_is_reliable}
use Rattle.broadcast.proofs.Serving.{guild_is_served}
use Rattle.broadcast.proofs.Counting.{slot_is_balanced}
use Rattle.broadcast.proofs.Example.{delivery}
use Rattle.broadcast.proofs.slot_theorems.Goals as goal

pub returns : goal.returns
returns c = record { number = refl; hold = (slot_is_reliable, (guild_is_served, (slot_is_balanced, (delivery, tt)))) }
