use Rattle.bits.specs.Bits.{bytes_for}
use Rattle.room.proofs.Laws.{room_none, room_some}
use Rattle.room.proofs.has_room.Goals as goal

pub returns-then-out-offset : goal.returns-then-out-offset
returns-then-out-offset c = let a = c.args in room_none a.out a.offset (bytes_for a.bits) c.if-out-offset.true

pub returns : goal.returns
returns c = let a = c.args in room_some a.out a.offset (bytes_for a.bits) c.if-out-offset.false
