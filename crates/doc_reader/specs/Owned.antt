-- These definitions follow the code; no public clause speaks of them.
-- What contracts see of a reader whose tokens are owned, and what its fields keep.
use Rattle.std.specs.Prelude.{◌≡◌, List, [], ◌++◌, map}
use Rattle.gcx_model.specs.Tree.{TreeToken as Said}
use Rattle.doc_reader.specs.Standing.{ReaderView, with_tokens, given_token, said_of}
use Rattle.doc_reader.specs.declared.reader.Reader.TheInside.{Inside}

-- a reader with these tokens before those that are lent
abbrev pub with_owned : List Said → ReaderView → ReaderView
with_owned waits h = with_tokens h (waits ++ h.state.tokens)

abbrev pub owned_view : Inside → ReaderView
owned_view r = with_owned (map said_of r.waits.items) r.lent

-- none is lent any more, and the end of the document isn't among those that wait
pub record IsDrained (r : Inside) : Type 0 where
  pub drained : r.lent.state.tokens ≡ []
  pub owned : map given_token (map said_of r.waits.items) ≡ r.waits.items
