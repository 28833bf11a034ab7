use Rattle.std.proofs.Common.{◌≡◌, ◌≤◌, take, length, reverse}
use Rattle.gcx_model.specs.Attributes.{is_fresh}
use Rattle.doc_tokens.specs.OpenNames.{names_of}
use Rattle.doc_tokens.proofs.open_names.OpenNames.has.Given as goal

abbrev pub invariant-loop-k : goal.invariant-loop-k
invariant-loop-k l = record {
  within : l.end ≤ length l.self-inside.bytes.items;
  few : l.k ≤ length l.self-inside.starts.items;
  rest : is_fresh l.name (names_of (reverse l.self-inside.starts.items) l.self-inside.bytes.items) ≡ is_fresh l.name (names_of (reverse (take l.k l.self-inside.starts.items)) (take l.end l.self-inside.bytes.items));
}

abbrev pub decreases-loop-k : goal.decreases-loop-k
decreases-loop-k l = l.k
