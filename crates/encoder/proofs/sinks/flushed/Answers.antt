use native.Mathlib.Omega.{arith}
use Rattle.encoder.proofs.SinkLaws.{then_held}
use Rattle.encoder.proofs.sinks.flushed.Goals as goal

pub returns : goal.returns
returns c = let t1 = c.byte_out-s1 in
    let t2 = c.byte_out-s2 in
    let t3 = c.byte_out-s3 in
    let t4 = c.byte_out in (
      then_held _ _ _ _ _ _ (then_held _ _ _ _ _ _ (then_held _ _ _ _ _ _ t1.ensures.0 t2.ensures.0) t3.ensures.0) t4.ensures.0,
      omega (arith, t1.ensures.1, t2.ensures.1, t3.ensures.1, t4.ensures.1, c.requires.0.free),
    )
