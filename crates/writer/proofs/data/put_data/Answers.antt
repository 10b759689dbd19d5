use native.Mathlib.Omega.{arith}
use Rattle.writer.proofs.DataLaws.{bytes_of, putting_none, next_block, putting_all, putting_full, putting_length, block_none, block_room, block_long, block_put}
use Rattle.writer.proofs.data.put_data.Goals as goal

pub loop-at-init : goal.loop-at-init
loop-at-init c = λ xs row. putting_none _ _ _ _ xs row

pub slice_bounds-put_block-count : goal.slice_bounds-put_block-count
slice_bounds-put_block-count c =
    let n = next_block c.args.output.now c.args.from c.args.records.now _ c.requires.records _ _ _ _ c.requires.count c.loop-at-test.true
    (c.loop-at.invariant c.requires.records c.requires.row) c.group_end-end.ensures in let forward = n.forward in let within = n.within in omega
    arith

pub slice_bounds-put_block-start : goal.slice_bounds-put_block-start
slice_bounds-put_block-start c =
    let n = next_block c.args.output.now c.args.from c.args.records.now _ c.requires.records _ _ _ _ c.requires.count c.loop-at-test.true
    (c.loop-at.invariant c.requires.records c.requires.row) c.group_end-end.ensures in let forward = n.forward in let within = n.within in omega
    arith

pub slice_bounds-put_block-end : goal.slice_bounds-put_block-end
slice_bounds-put_block-end c =
    let n = next_block c.args.output.now c.args.from c.args.records.now _ c.requires.records _ _ _ _ c.requires.count c.loop-at-test.true
    (c.loop-at.invariant c.requires.records c.requires.row) c.group_end-end.ensures in let forward = n.forward in let within = n.within in omega
    arith

pub returns-in_err-next : goal.returns-in_err-next
unfolding bytes_of
returns-in_err-next c =
    λ xs row. let n = next_block c.args.output.now c.args.from c.args.records.now _ xs _ _ _ _ c.requires.count c.loop-at-test.true
    (c.loop-at.invariant xs row) c.group_end-end.ensures in
    let long = putting_length c.args.output.now _ c.args.records.now _ _ _ _ _ (c.loop-at.invariant xs row) in
    rw c.from_residual.ensures (putting_full c.args.output.now _ _ xs _
    (block_none c.args.output.now c.args.from c.args.records.now _ xs _ _ _ _ n long c.in_err-next.ensures.0))

pub overflow_add-next : goal.overflow_add-next
overflow_add-next c =
    let n = next_block c.args.output.now c.args.from c.args.records.now _ c.requires.records _ _ _ _ c.requires.count c.loop-at-test.true
    (c.loop-at.invariant c.requires.records c.requires.row) c.group_end-end.ensures in
    let long = putting_length c.args.output.now _ c.args.records.now _ _ _ _ _ (c.loop-at.invariant c.requires.records c.requires.row) in
    let room = block_room c.args.output.now c.args.from c.args.records.now _ c.requires.records _ _ _ _ n long _ c.in_ok-next.ensures.0 in
    omega (arith, c.well_formed)

pub returns-then-next-gt-MAX_FILE : goal.returns-then-next-gt-MAX_FILE
unfolding bytes_of
returns-then-next-gt-MAX_FILE c =
    λ xs row. let n = next_block c.args.output.now c.args.from c.args.records.now _ xs _ _ _ _ c.requires.count c.loop-at-test.true
    (c.loop-at.invariant xs row) c.group_end-end.ensures in
    let long = putting_length c.args.output.now _ c.args.records.now _ _ _ _ _ (c.loop-at.invariant xs row) in
    putting_full c.args.output.now _ _ xs _ (block_long c.args.output.now c.args.from c.args.records.now _ xs _ _ _ _ n long _
    c.in_ok-next.ensures.0 (omega arith))

pub loop-at-smaller : goal.loop-at-smaller
loop-at-smaller c =
    let n = next_block c.args.output.now c.args.from c.args.records.now _ c.requires.records _ _ _ _ c.requires.count c.loop-at-test.true
    (c.loop-at.invariant c.requires.records c.requires.row) c.group_end-end.ensures in let forward = n.forward in let within = n.within in omega arith

pub loop-at-preserved : goal.loop-at-preserved
loop-at-preserved c =
    λ xs row. let n = next_block c.args.output.now c.args.from c.args.records.now _ xs _ _ _ _ c.requires.count c.loop-at-test.true
    (c.loop-at.invariant xs row) c.group_end-end.ensures in
    let long = putting_length c.args.output.now _ c.args.records.now _ _ _ _ _ (c.loop-at.invariant xs row) in
    block_put c.args.output.now c.args.from c.args.records.now _ xs _ _ _ _ n long _ c.in_ok-next.ensures.0
    (omega arith) _ c.put_block.ensures.1

pub returns : goal.returns
unfolding bytes_of
returns c =
    λ xs row. putting_all c.args.output.now _ c.args.records.now _ xs _ _ _ c.requires.count c.requires.some (omega arith)
    (c.loop-at.invariant xs row)
