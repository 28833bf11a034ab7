-- How the items of the code are seen as plain trees (this project's).
use Rattle.std.specs.Prelude.{List, [], ◌∷◌, map}
use Rattle.gcx_model.specs.declared.item.RoleKind.{RoleKind as CodeKind}
use Rattle.gcx_model.specs.declared.item.RoleKind.TheVariants as kind
use Rattle.gcx_model.specs.declared.item.Off.{Off}
use Rattle.gcx_model.specs.declared.item.Item.{Item, Item-F, fold-Item}
use Rattle.gcx_model.specs.declared.item.Item.TheOpen as item
use Rattle.gcx_model.specs.declared.item.Body.{Body, Body-F}
use Rattle.gcx_model.specs.Core.{RoleTarget, Own, First, Whole, OffTree, ItemTree, BodyTree, Nil, Then}
use Rattle.gcx_model.specs.Core as tree
use Rattle.gcx_model.specs.CondView.{core_cond_tree}

abbrev pub role_kind : CodeKind → RoleTarget
role_kind kind.Own = Own
role_kind kind.First = First
role_kind kind.Whole = Whole

-- the statement with plain numbers
abbrev pub off_tree : Off → OffTree
off_tree o = record { base = o.base.0; own = o.own.0; role = o.role.0; rel = o.rel; tail = o.tail; kind = role_kind o.kind }

abbrev pub body_of : List ItemTree → BodyTree
body_of [] = Nil
body_of (i ∷ is) = Then i (body_of is)

abbrev pub item_layer : Item-F ItemTree BodyTree → ItemTree
item_layer (item.Write b) = tree.Write b
item_layer (item.Copy x) = tree.Copy x.0
item_layer (item.For x y step d) = tree.For x.0 y.0 step d
item_layer (item.If c a b) = tree.If (core_cond_tree c) a b
item_layer (item.Off o) = tree.SignOff (off_tree o)

abbrev pub body_layer : Body-F ItemTree BodyTree → BodyTree
body_layer d = body_of d.members.items

-- the item as a plain tree
abbrev pub item_tree : Item → ItemTree
item_tree i = fold-Item ItemTree BodyTree item_layer body_layer i

abbrev pub item_trees : Body → List ItemTree
item_trees d = map item_tree d.members.items

-- the body as a plain tree
abbrev pub body_tree : Body → BodyTree
body_tree d = body_of (item_trees d)
