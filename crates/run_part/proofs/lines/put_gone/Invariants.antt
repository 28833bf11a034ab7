use Rattle.std.proofs.Common.{◌≡◌, ◌++◌, List, map, ℕ}
use Rattle.std.specs.Prelude.{drop}
use Rattle.gcx_model.specs.Demand as demand
use Rattle.gcx_model.specs.Demand.{text_of_lines}
use Rattle.buf_tree.specs.Rows.{serials}
use Rattle.run_part.proofs.lines.put_gone.Given as goal

abbrev pub invariant-loop-serial : goal.invariant-loop-serial
invariant-loop-serial l = record {
  part : List ℕ;
  grew : l.trace.items ≡ l.fn.trace.items ++ part;
  whole : part ++ text_of_lines (map demand.Left (serials (drop l.serial-index l.gone))) ≡ text_of_lines (map demand.Left (serials l.fn.gone));
}
