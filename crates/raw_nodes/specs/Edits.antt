-- What one call makes of the nodes. This follows the code: only private functions speak of it. All definitions here are
-- this project's.
use Rattle.std.specs.Prelude.{List, Option, Some, None}
use Rattle.raw_nodes.specs.Spots.{Spot, updated}
use Rattle.raw_nodes.specs.declared.arena.Link.{Link}
use Rattle.raw_nodes.specs.declared.node.Node.{Node}

module _ {T : Type 0} where
  abbrev pub to_first : Option Link → Node T → Node T
  to_first l n = record n { first = l }

  abbrev pub to_last : Option Link → Node T → Node T
  to_last l n = record n { last = l }

  abbrev pub to_prev : Option Link → Node T → Node T
  to_prev l n = record n { prev = l }

  abbrev pub to_next : Option Link → Node T → Node T
  to_next l n = record n { next = l }

  -- a row without children
  abbrev pub to_row : Option Link → Option Link → T → Node T → Node T
  to_row parent prev x n = record { number = n.number; parent = parent; first = None; last = None; prev = prev; next = None; payload = Some x }

  -- a dead cell in place of a row without children
  abbrev pub to_dead : Link → Option Link → Node T → Node T
  to_dead own next n = record n { last = Some own; next = next; payload = None }

  abbrev pub right_put : Option Link → Option Link → Option Link → List (Spot (Node T)) → List (Spot (Node T))
  right_put parent (Some l) right cells = updated (to_next right) cells l.ptr
  right_put (Some q) None right cells = updated (to_first right) cells q.ptr
  right_put None None right cells = cells

  abbrev pub left_put : Option Link → Option Link → Option Link → List (Spot (Node T)) → List (Spot (Node T))
  left_put parent left (Some r) cells = updated (to_prev left) cells r.ptr
  left_put (Some q) left None cells = updated (to_last left) cells q.ptr
  left_put None left None cells = cells

  abbrev pub join_put : Option Link → Option Link → Option Link → List (Spot (Node T)) → List (Spot (Node T))
  join_put parent left right cells = left_put parent left right (right_put parent left right cells)
