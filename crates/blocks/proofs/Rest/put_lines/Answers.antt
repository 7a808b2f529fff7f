-- Each turn puts a line behind those before it, and what is put in the end is a block.
use Rattle.std.proofs.Common.{◌≡◌, refl, ◌∙◌, arith}
use Rattle.blocks.proofs.Blocks.{no_block, longer, moved, is_block, fewer_left}
use Rattle.blocks.proofs.Rest.put_lines.Goals as goal

pub loop-line-init : goal.loop-line-init
loop-line-init c = rw (← c.self.view_is) (record { count = rw (← c.self.view_is) at c.line_count-count.ensures.value; same_buffer = refl; put = no_block _ _ _ _ _ c.requires c.self.invariant.1 })

pub loop-line-preserved : goal.loop-line-preserved
loop-line-preserved c =
    let i = rw (← c.self.view_is) at c.loop-line.invariant in
    let line = rw (← c.self.view_is) at c.put_line.ensures in
    rw (← c.self.view_is) (record {
      count = i.count;
      same_buffer = line.same_buffer ∙ i.same_buffer;
      put = longer _ _ _ _ _ _ _ _ _ c.self.invariant.0 i.put (rw (← i.count) c.loop-line-test.true) (omega (arith, c.room.ensures, c.if-room-lt-LONGEST.false)) line.put;
    })

pub returns-then-room-lt-LONGEST-clause-block : goal.returns-then-room-lt-LONGEST-clause-block
returns-then-room-lt-LONGEST-clause-block c =
    let i = rw (← c.self.view_is) at c.loop-line.invariant in
    rw (← c.self.view_is) (is_block _ _ _ _ _ _ _ i.put c.self.invariant.0)

pub returns-then-room-lt-LONGEST-clause-rest_bound : goal.returns-then-room-lt-LONGEST-clause-rest_bound
returns-then-room-lt-LONGEST-clause-rest_bound c =
    let i = rw (← c.self.view_is) at c.loop-line.invariant in
    rw (← c.self.view_is) (fewer_left _ _ _ _ _ _ _ i.put (moved _ _ _ _ _ _ _ i.put (λ more room. omega (arith, room, c.room.ensures, c.if-room-lt-LONGEST.true))))

pub returns-clause-block : goal.returns-clause-block
returns-clause-block c =
    let i = rw (← c.self.view_is) at c.loop-line.invariant in
    let all : c.loop-line.line ≡ c.line_count-count.result = omega (arith, i.count, i.put.none_past, c.loop-line-test.false) in
    rw (← c.self.view_is) (is_block _ _ _ _ _ _ _ (rw all at i.put) c.self.invariant.0)

pub returns-clause-rest_bound : goal.returns-clause-rest_bound
returns-clause-rest_bound c =
    let i = rw (← c.self.view_is) at c.loop-line.invariant in
    let all : c.loop-line.line ≡ c.line_count-count.result = omega (arith, i.count, i.put.none_past, c.loop-line-test.false) in
    rw (← c.self.view_is) (fewer_left _ _ _ _ _ _ _ (rw all at i.put) (moved _ _ _ _ _ _ _ (rw all at i.put) (λ more room. omega (arith, more, i.count))))
