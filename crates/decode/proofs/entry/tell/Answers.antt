use Rattle.std.proofs.Common.{arith}
use Rattle.decode.proofs.Rows.{both_written, room_some, tells_some, rest_room}
use Rattle.decode.proofs.entry.tell.Goals as goal

pub write_numbers-requires : goal.write_numbers-requires
write_numbers-requires c =
    let f = c.in-Some.difference in
    omega (arith, room_some f c.gone-gone.result.now c.come-come.result.now c.gone-gone.ensures c.come-come.ensures _ _ c.in-Some.is c.requires)

pub write_numbers-requires-2 : goal.write_numbers-requires-2
write_numbers-requires-2 c =
    let f = c.in-Some.difference in
    rest_room c.gone-gone.result.now c.come-come.result.now c.args.out.now c.write_numbers.new.out _ (omega arith)
    (room_some f c.gone-gone.result.now c.come-come.result.now c.gone-gone.ensures c.come-come.ensures _ _ c.in-Some.is c.requires)
    c.write_numbers.ensures

pub returns : goal.returns
returns c =
    let f = c.in-Some.difference in
    let gone = c.gone-gone.result.now in
    let come = c.come-come.result.now in
    tells_some f gone come c.gone-gone.ensures c.come-come.ensures _ c.args.out.now _ c.in-Some.is
    (both_written gone come c.args.out.now c.write_numbers.new.out c.write_numbers-2.new.out
    (room_some f gone come c.gone-gone.ensures c.come-come.ensures _ _ c.in-Some.is c.requires)
    c.write_numbers.ensures c.write_numbers-2.ensures)
