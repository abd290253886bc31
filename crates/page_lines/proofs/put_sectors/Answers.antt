-- `page_lines::put_sectors` meets its contract: one more line stands.
use Rattle.page_lines.proofs.LineLaws.{line_room, line_more}
use Rattle.page_lines.proofs.put_sectors.Goals as goal

pub put_sector-next-requires-clause-room : goal.put_sector-next-requires-clause-room
put_sector-next-requires-clause-room c = line_room c.loop-i.invariant c.args.n c.loop-i-test.true c.requires.room

pub loop-i-preserved : goal.loop-i-preserved
loop-i-preserved c = line_more c.loop-i.invariant (c.put_sector-next.ensures.value, c.put_sector-next.ensures.out_after)
