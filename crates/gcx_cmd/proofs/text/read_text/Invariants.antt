use Rattle.std.proofs.Common.{◌≡◌, ◌<◌, ◌-◌, length, vec_len}
use Rattle.gcx_cmd.proofs.QueryRead.{HasRead}
use Rattle.gcx_cmd.proofs.text.read_text.Given as goal

abbrev pub invariant-reading : goal.invariant-reading
invariant-reading g l = record {
  room : length l.buf ≡ 4096;
  given : l.handle.0 < g.F.Shelf.handles l.files;
  read : HasRead l.name l.text.items l.handle.0 (g.F.Shelf.seen l.fn.files) (g.F.Shelf.seen l.files);
}

abbrev pub decreases-reading : goal.decreases-reading
decreases-reading g l = 1048577 - vec_len l.text
