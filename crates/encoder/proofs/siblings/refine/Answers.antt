use Prim.Native.Nat.{ℕ, ◌+◌, ◌*◌, ◌<◌}
use mathlib.Core.Path.{ap, ◌∙◌}
use native.Mathlib.Omega.{arith}
use lib.ListN.{get_or}
use Rattle.marking.proofs.Laws.{skip_in}
use Rattle.fours.specs.Words.{FourLow, with_word}
use Rattle.fours.proofs.Laws.{which_lt}
use Rattle.encoder.proofs.SiblingSteps.{four_there, room_for, holds_eight, low_four, bits_few, picked_ready, leave, skip_refining, none_refined, found_refined}
use Rattle.encoder.proofs.siblings.refine.Goals as goal

pub overflow_add-place : goal.overflow_add-place
overflow_add-place c = omega (arith, skip_in (get_or c.args.marks.now c.args.place 0), c.skip.ensures)

pub returns-then-mark-gt-MCP : goal.returns-then-mark-gt-MCP
returns-then-mark-gt-MCP c = rw c.goes.ensures (skip_refining _ _ _ _ _ _ _ _ _ _ _ c.requires.0 _ c.if-mark-gt-MCP.true c.skip.ensures)

pub returns-then-w-eq16843009 : goal.returns-then-w-eq16843009
returns-then-w-eq16843009 c = rw c.goes-then-w-eq16843009.ensures (none_refined _ _ _ _ _ _ _ _ _ _ _ c.requires.0 _ c.word_at-w.ensures.value (c.word_at-w.ensures.four_bytes (four_there _ _ _ _ _ _ _ _ _ c.requires.0)) c.if-w-eq16843009.true)

pub returns-then-limits-s : goal.returns-then-limits-s
returns-then-limits-s c = rw c.rests.ensures (leave _ _ _ _ _ _ _ _ _ _ _ c.requires.0 2)

pub overflow_mul-e : goal.overflow_mul-e
overflow_mul-e c =
    let asked_few : c.threes.result < 16 = which_lt 3 c.word_at-w.result _ c.threes.ensures in
    omega (arith, asked_few)

pub overflow_add-e : goal.overflow_add-e
overflow_add-e c =
    let asked_few : c.threes.result < 16 = which_lt 3 c.word_at-w.result _ c.threes.ensures in
    let a = c.args in omega (arith, asked_few, c.four_bits.ensures, bits_few a.src.coefs.now a.b a.place)

pub bounds-picked-threes : goal.bounds-picked-threes
bounds-picked-threes c =
    let asked_few : c.threes.result < 16 = which_lt 3 c.word_at-w.result _ c.threes.ensures in
    let a = c.args in omega (arith, asked_few, c.four_bits.ensures, bits_few a.src.coefs.now a.b a.place)

pub put_entry-t-requires : goal.put_entry-t-requires
put_entry-t-requires c =
    let asked_few : c.threes.result < 16 = which_lt 3 c.word_at-w.result _ c.threes.ensures in
    let r = picked_ready c.args.src.coefs.now c.args.b c.args.place c.threes.result _ c.args.picked.now c.requires.1 (asked_few) (ap (λ (y : ℕ). get_or c.args.picked.now (16 * c.threes.result + y) 0) c.four_bits.ensures) c.args.s (holds_eight _ _ _ _ _ _ _ _ _ c.requires.0) in
    (r.0, r.1, room_for _ _ _ _ _ _ _ _ _ c.requires.0 c.if-limits-s.false)

pub returns : goal.returns
returns c =
    let asked_few : c.threes.result < 16 = which_lt 3 c.word_at-w.result _ c.threes.ensures in
    let low_so : FourLow c.args.marks.now c.args.place = low_four _ _ _ _ _ _ _ _ _ c.requires.0 _ c.word_at-w.ensures.value (c.word_at-w.ensures.four_bytes (four_there _ _ _ _ _ _ _ _ _ c.requires.0)) _ c.low.ensures c.if-not-low.false in
    rw c.goes-2.ensures (found_refined _ _ _ _ _ _ _ _ _ _ _ c.requires.0 _ c.threes.result _ c.args.picked.now c.requires.1 (asked_few) c.word_at-w.ensures.value c.threes.ensures (ap (λ (y : ℕ). get_or c.args.picked.now (16 * c.threes.result + y) 0) c.four_bits.ensures) (low_so) c.if-limits-s.false _ _ c.put_entry-t.ensures _ (c.set_word.ensures ∙ ap (with_word c.args.marks.now c.args.place) c.refined.ensures))
