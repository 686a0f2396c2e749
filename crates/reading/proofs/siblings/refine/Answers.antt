use mathlib.Core.Path.{sym, subst}
use Prim.Native.Nat.{ℕ, ◌/◌, ◌<◌}
use native.Mathlib.Omega.{arith}
use lib.ListN.{get_or}
use Rattle.bits.specs.Bits.{bit}
use Rattle.marking.proofs.Laws.{skip_in}
use Rattle.fours.specs.Tables.{in_nibble}
use Rattle.fours.proofs.Laws.{placed_entry, which_lt}
use Rattle.reading.proofs.SiblingSteps.{stays, skips_refining, no_refined_so, refined_so, placed_lt}
use Rattle.reading.proofs.siblings.refine.Goals as goal

pub overflow_add-next : goal.overflow_add-next
overflow_add-next c = omega (arith, skip_in (get_or c.args.marks.now c.args.place 0), c.skip.ensures, c.requires.0.near, c.requires.0.below)

pub returns-then-mark-gt-MCP : goal.returns-then-mark-gt-MCP
returns-then-mark-gt-MCP c = rw c.goes.ensures (skips_refining _ _ _ _ _ _ _ _ _ _ _ c.requires.0 _ c.if-mark-gt-MCP.true c.skip.ensures)

pub returns-then-w-eq16843009 : goal.returns-then-w-eq16843009
returns-then-w-eq16843009 c = rw c.goes-then-w-eq16843009.ensures (no_refined_so _ _ _ _ _ _ _ _ _ _ _ c.requires.0 _ c.word_at-w.ensures.value c.word_at-w.ensures.four_bytes c.if-w-eq16843009.true)

pub returns-then-sweep-n : goal.returns-then-sweep-n
returns-then-sweep-n c = rw c.rests.ensures (stays _ _ _ _ _ _ _ _ _ _ _ c.requires.0 _)

pub overflow_mul-a : goal.overflow_mul-a
overflow_mul-a c = record { fits = omega (arith, which_lt 3 c.word_at-w.result c.threes-k.result c.threes-k.ensures) }

pub overflow_add-a : goal.overflow_add-a
overflow_add-a c = record { fits = omega (arith, which_lt 3 c.word_at-w.result c.threes-k.result c.threes-k.ensures, c.window.ensures.small) }

pub bounds-sweep-k : goal.bounds-sweep-k
bounds-sweep-k c = omega (arith, which_lt 3 c.word_at-w.result c.threes-k.result c.threes-k.ensures, c.window.ensures.small)

pub overflow_cast-a-2 : goal.overflow_cast-a-2
overflow_cast-a-2 c = record { fits = omega (arith, placed_entry c.args.sweep.lookups.placed.now c.threes-k.result (c.window.result / 4096) c.requires.1 (which_lt 3 c.word_at-w.result c.threes-k.result c.threes-k.ensures) (omega (arith, c.window.ensures.small)), placed_lt (bit c.threes-k.result) (in_nibble (c.window.result / 4096))) }

pub refined_four-requires : goal.refined_four-requires
refined_four-requires c = (omega (arith, c.requires.0.below, c.requires.0.in_values), c.requires.2, c.requires.0.plane, subst (λ (x : ℕ). x < 16) (sym (placed_entry c.args.sweep.lookups.placed.now c.threes-k.result (c.window.result / 4096) c.requires.1 (which_lt 3 c.word_at-w.result c.threes-k.result c.threes-k.ensures) (omega (arith, c.window.ensures.small)))) (placed_lt (bit c.threes-k.result) (in_nibble (c.window.result / 4096))))

pub returns : goal.returns
returns c = rw c.goes-2.ensures (refined_so _ _ _ _ _ _ _ _ _ _ _ c.requires.0 _ c.word_at-w.ensures.value c.word_at-w.ensures.four_bytes _ c.low.ensures c.if-not-low.false-raw _ c.threes-k.ensures _ c.window.ensures (omega (arith, c.if-sweep-n.false)) _ _ _ c.count.ensures (placed_entry c.args.sweep.lookups.placed.now c.threes-k.result (c.window.result / 4096) c.requires.1 (which_lt 3 c.word_at-w.result c.threes-k.result c.threes-k.ensures) (omega (arith, c.window.ensures.small))) c.refined.ensures _ _ c.set_word.ensures c.refined_four.ensures.values_after c.refined_four.ensures.fixed)
