-- What a copy writes of a node, and where it goes on. Private functions alone speak of it.
use Rattle.std.specs.Prelude.{ℕ, cond, List, [], Option, Some, None, unwrap_or}
use Rattle.gcx_base.specs.declared.kind.Kind.{Kind}
use Rattle.gcx_base.specs.declared.kind.Kind.TheVariants.{Document, Element, Text}
use Rattle.gcx_model.specs.Written.{start_tag, end_tag, escaped}
use Rattle.node_store.specs.declared.store.Place.{Place}
use Rattle.gcx_base.specs.Kinds.{is_text}
use Rattle.pull_eval.specs.declared.block.Copying.{Copying}

-- with which bytes the copy of a node of this kind begins, and with which it ends
abbrev pub first_bytes : Kind → List ℕ
first_bytes Document = []
first_bytes (Element name) = start_tag name
first_bytes (Text b) = escaped b

abbrev pub last_bytes : Kind → List ℕ
last_bytes Document = []
last_bytes (Element name) = end_tag name
last_bytes (Text b) = []

-- the child whose copy is over last, or the node itself
abbrev pub present_place : Copying → Place
present_place c = unwrap_or c.present c.node

-- where a copy stands that begins at a node of this kind: of a text it is over
abbrev pub begun_at : Place → Kind → Option Copying
begun_at p k = cond (is_text k) None (Some (record { top = p; node = p; present = None }))

-- and where it goes on that has come to a child of this kind: behind a text, or within the child
abbrev pub come_to : Copying → (child : Place) → Kind → Copying
come_to c p k = cond (is_text k) (record c { present = Some p }) (record c { node = p; present = None })

-- within the copy of the parent, at this place, behind that of the node
abbrev pub risen : Copying → (place : ℕ) → Copying
risen c p = record { top = c.top; node = record { 0 = p }; present = Some c.node }
