use Prim.Native.Nat.{◌/◌, ◌%◌, ◌+◌, ◌≤◌}
use mathlib.Core.Path.{sym, subst}
use lib.ListN.{length}
use Rattle.encoder.specs.Sinks.{Holding}
use Rattle.encoder.specs.declared.Sink.{Sink}
use Rattle.encoder.proofs.SinkLaws.{put_holds}
use Rattle.encoder.proofs.siblings.put_entry.Goals as goal

pub flushed-requires : goal.flushed-requires
flushed-requires c = let a = c.args in
    subst (λ (t : Sink). Holding t 0 × (t.at + 4 ≤ length a.out.now)) (sym c.put-t.ensures) (put_holds a.s (a.e / 256) (a.e % 256) c.requires.0 c.requires.1, c.requires.2)
