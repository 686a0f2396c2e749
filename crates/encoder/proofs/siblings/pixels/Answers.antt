use Prim.Native.Nat.{◌/◌, ◌<◌}
use mathlib.Core.Path.{refl, sym, ◌∙◌}
use native.Mathlib.Omega.{arith}
use lib.ListN.{get_or}
use Rattle.marking.proofs.Laws.{skip_in}
use Rattle.fours.specs.Words.{FourLow}
use Rattle.fours.proofs.Laws.{low_fits, which_lt}
use Rattle.encoder.proofs.SiblingSteps.{four_there, room_for, holds_eight, low_four, found_few, sent_ready, leave, skip_pixels, no_pixels, found_pixels}
use Rattle.encoder.proofs.siblings.pixels.Goals as goal

pub overflow_add-place : goal.overflow_add-place
overflow_add-place c = omega (arith, skip_in (get_or c.args.marks.now c.args.place 0), c.skip.ensures)

pub returns-then-mark-gt-MCP : goal.returns-then-mark-gt-MCP
returns-then-mark-gt-MCP c = rw c.goes.ensures (skip_pixels _ _ _ _ _ _ _ _ _ _ _ c.requires.0 _ c.if-mark-gt-MCP.true c.skip.ensures)

pub returns-then-limits-s : goal.returns-then-limits-s
returns-then-limits-s c = rw c.rests.ensures (leave _ _ _ _ _ _ _ _ _ _ _ c.requires.0 0)

pub returns-then-k-eq0 : goal.returns-then-k-eq0
returns-then-k-eq0 c =
    let low_so : FourLow c.args.marks.now c.args.place = low_four _ _ _ _ _ _ _ _ _ c.requires.0 _ c.word_at-w.ensures.value (c.word_at-w.ensures.four_bytes (four_there _ _ _ _ _ _ _ _ _ c.requires.0)) _ c.low.ensures c.if-not-low.false in
    rw c.goes-then-k-eq0.ensures (no_pixels _ _ _ _ _ _ _ _ _ _ _ c.requires.0 _ c.word_at-w.ensures.value (c.word_at-w.ensures.four_bytes (four_there _ _ _ _ _ _ _ _ _ c.requires.0)) (low_so) (sym c.ones-k.ensures ∙ c.if-k-eq0.true))

pub key_of-x-requires : goal.key_of-x-requires
key_of-x-requires c =
    let asked_few : c.ones-k.result < 16 = which_lt 1 c.word_at-w.result _ c.ones-k.ensures in
    (omega arith, omega arith, c.requires.0.plane, asked_few)

pub bounds-sent-x : goal.bounds-sent-x
bounds-sent-x c =
    let asked_few : c.ones-k.result < 16 = which_lt 1 c.word_at-w.result _ c.ones-k.ensures in
    let a = c.args in found_few a.src.coefs.now a.b a.place _ _ (asked_few) c.key_of-x.ensures

pub put_entry-t-requires : goal.put_entry-t-requires
put_entry-t-requires c =
    let asked_few : c.ones-k.result < 16 = which_lt 1 c.word_at-w.result _ c.ones-k.ensures in
    let r = sent_ready c.args.src.coefs.now c.args.b c.args.place _ _ (asked_few) c.key_of-x.ensures _ _ c.requires.1 refl c.args.s (holds_eight _ _ _ _ _ _ _ _ _ c.requires.0) in
    (r.0, r.1, room_for _ _ _ _ _ _ _ _ _ c.requires.0 c.if-limits-s.false)

pub overflow_add-w : goal.overflow_add-w
overflow_add-w c =
    let low_so : FourLow c.args.marks.now c.args.place = low_four _ _ _ _ _ _ _ _ _ c.requires.0 _ c.word_at-w.ensures.value (c.word_at-w.ensures.four_bytes (four_there _ _ _ _ _ _ _ _ _ c.requires.0)) _ c.low.ensures c.if-not-low.false in
    omega (arith, c.spread.ensures, c.word_at-w.ensures.value, low_fits c.args.marks.now c.args.place (four_there _ _ _ _ _ _ _ _ _ c.requires.0) (low_so) (c.key_of-x.result / 16))

pub returns : goal.returns
returns c =
    let asked_few : c.ones-k.result < 16 = which_lt 1 c.word_at-w.result _ c.ones-k.ensures in
    let low_so : FourLow c.args.marks.now c.args.place = low_four _ _ _ _ _ _ _ _ _ c.requires.0 _ c.word_at-w.ensures.value (c.word_at-w.ensures.four_bytes (four_there _ _ _ _ _ _ _ _ _ c.requires.0)) _ c.low.ensures c.if-not-low.false in
    rw c.goes-2.ensures (found_pixels _ _ _ _ _ _ _ _ _ _ _ c.requires.0 _ _ _ _ c.requires.1 (asked_few) c.key_of-x.ensures refl _ c.word_at-w.ensures.value (low_so) c.ones-k.ensures c.if-limits-s.false _ _ c.put_entry-t.ensures _ c.spread.ensures _ c.set_word.ensures)
