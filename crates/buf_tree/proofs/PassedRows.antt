-- The rows of passed elements as lists.
use Rattle.std.proofs.Common.{◌≡◌, ℕ, suc, ◌+◌, cond, List, [], ◌∷◌, ◌++◌, length, map, refl, sym, ◌∙◌, ap, arith, Some, None, Option}
use Rattle.std.proofs.lemmas.List.{append-nil, append_assoc, length-append, length-map, map-append}
use Rattle.buf_tree.specs.Shape.{Cell}
use Rattle.buf_tree.specs.View.{num_in, level_in}
use Rattle.buf_tree.specs.Stands.{seen}
use Rattle.buf_tree.specs.Loose.{Passed, open_among, last_open, passed_cell, passed_cells, cells_passed, SettlesOne, SettlesNone, OneRowMore}

less_one : (a b : ℕ) → suc a ≡ suc b → a ≡ b
less_one a b e = omega arith

no_length : (b : ℕ) → 0 ≡ suc b → ⊥
no_length b e = omega arith

-- what doesn't depend on the places is the same of them at any
module _ {S : Type 0} (f : Cell → S) (same : (c : Cell) (q : ℕ) → f c ≡ f (record { place = q; row = c.row })) where
  passed_same : (a l : ℕ) (ps qs : List ℕ) (xs : List Passed) → length ps ≡ length xs → length qs ≡ length xs → map f (passed_cells a l ps xs) ≡ map f (passed_cells a l qs xs)
  passed_same a l ps qs [] e g = refl
  passed_same a l [] qs (x ∷ xs) e g = absurd (no_length _ e)
  passed_same a l (p ∷ ps) [] (x ∷ xs) e g = absurd (no_length _ g)
  passed_same a l (p ∷ ps) (q ∷ qs) (x ∷ xs) e g = λ t. same (passed_cell a l p x) q t ∷ passed_same x.serial (l + 1) ps qs xs (less_one _ _ e) (less_one _ _ g) t

  -- and with others before them
  pub front_same : (front rows : List Cell) (ps qs : List ℕ) (xs : List Passed) → length ps ≡ length xs → length qs ≡ length xs → map f (front ++ cells_passed ps xs rows) ≡ map f (front ++ cells_passed qs xs rows)
  front_same front rows ps qs xs e g =
      map-append f front (cells_passed ps xs rows)
      ∙ ap (λ z. map f front ++ z) (passed_same (num_in (last_open rows)) (level_in (last_open rows)) ps qs xs e g)
      ∙ sym (map-append f front (cells_passed qs xs rows))

-- so are what is seen and the roles
pub rows_same : (rows : List Cell) (ps qs : List ℕ) (xs : List Passed) → length ps ≡ length xs → length qs ≡ length xs → map seen (rows ++ cells_passed ps xs rows) ≡ map seen (rows ++ cells_passed qs xs rows)
rows_same rows ps qs xs e g = front_same seen (λ c q. refl) rows rows ps qs xs e g

pub kept_same : (kept rows : List Cell) (ps qs : List ℕ) (xs : List Passed) → length ps ≡ length xs → length qs ≡ length xs → map (λ c. c.row.roles) (kept ++ cells_passed ps xs rows) ≡ map (λ c. c.row.roles) (kept ++ cells_passed qs xs rows)
kept_same kept rows ps qs xs e g = front_same (λ (c : Cell). c.row.roles) (λ c q. refl) kept rows ps qs xs e g

pub open_append : (o : Option Cell) (cs ds : List Cell) → open_among o (cs ++ ds) ≡ open_among (open_among o cs) ds
open_append o [] ds = refl
open_append o (c ∷ cs) ds = open_append (cond c.row.is_open (Some c) o) cs ds

-- the last of them lies below the last open row before it
pub passed_push : (o : Option Cell) (ps : List ℕ) (xs : List Passed) (p : ℕ) (x : Passed) → length ps ≡ length xs
    → passed_cells (num_in o) (level_in o) (ps ++ p ∷ []) (xs ++ x ∷ [])
    ≡ passed_cells (num_in o) (level_in o) ps xs ++ passed_cell (num_in (open_among o (passed_cells (num_in o) (level_in o) ps xs))) (level_in (open_among o (passed_cells (num_in o) (level_in o) ps xs))) p x ∷ []
passed_push o [] [] p x e = refl
passed_push o [] (y ∷ xs) p x e = absurd (no_length _ e)
passed_push o (q ∷ ps) [] p x e = absurd (no_length _ (sym e))
passed_push o (q ∷ ps) (y ∷ xs) p x e =
    ap (λ z. passed_cell (num_in o) (level_in o) q y ∷ z) (passed_push (Some (passed_cell (num_in o) (level_in o) q y)) ps xs p x (less_one _ _ e))

-- some places
abbrev pub places_of : List Passed → List ℕ
places_of xs = map (λ (x : Passed). x.serial) xs

pub places_length : (xs : List Passed) → length (places_of xs) ≡ length xs
places_length xs = length-map xs (λ (x : Passed). x.serial)

pub places_push : (xs : List Passed) (p : ℕ) (x : Passed) → length (places_of xs ++ p ∷ []) ≡ length (xs ++ x ∷ [])
places_push xs p x = length-append (places_of xs) (p ∷ []) ∙ ap (λ k. k + 1) (places_length xs) ∙ sym (length-append xs (x ∷ []))

-- with one passed element more there is one row more
pub front_push : (front rows : List Cell) (xs : List Passed) (p : ℕ) (x : Passed)
    → front ++ cells_passed (places_of xs ++ p ∷ []) (xs ++ x ∷ []) rows
    ≡ (front ++ cells_passed (places_of xs) xs rows) ++ passed_cell (num_in (last_open (rows ++ cells_passed (places_of xs) xs rows))) (level_in (last_open (rows ++ cells_passed (places_of xs) xs rows))) p x ∷ []
front_push front rows xs p x =
    ap (λ z. front ++ z) (passed_push (last_open rows) (places_of xs) xs p x (places_length xs))
    ∙ sym (append_assoc front (cells_passed (places_of xs) xs rows) _)
    ∙ ap (λ o. (front ++ cells_passed (places_of xs) xs rows) ++ passed_cell (num_in o) (level_in o) p x ∷ []) (sym (open_append None rows (cells_passed (places_of xs) xs rows)))

pub one_row_more : OneRowMore
one_row_more v xs x ps p e =
    let o = open_among (last_open v.rows) (cells_passed ps xs v.rows) in (
      passed_cell (num_in o) (level_in o) p x,
      refl,
      refl,
      ap (λ z. v.rows ++ z) (passed_push (last_open v.rows) ps xs p x e) ∙ sym (append_assoc v.rows (cells_passed ps xs v.rows) _),
    )

pub settles_one : SettlesOne
settles_one v x xs p ps = λ t. record v { rows = same v.rows t; kept = same v.kept t }
  where
    c : Cell
    c = passed_cell (num_in (last_open v.rows)) (level_in (last_open v.rows)) p x

    same : (front : List Cell) → front ++ cells_passed (p ∷ ps) (x ∷ xs) v.rows ≡ (front ++ c ∷ []) ++ cells_passed ps xs (v.rows ++ c ∷ [])
    same front =
        sym (append_assoc front (c ∷ []) (passed_cells x.serial (level_in (last_open v.rows) + 1) ps xs))
        ∙ ap (λ o. (front ++ c ∷ []) ++ passed_cells (num_in o) (level_in o) ps xs) (sym (open_append None v.rows (c ∷ [])))

pub settles_none : SettlesNone
settles_none v ps = λ t. record v { rows = append-nil v.rows t; kept = append-nil v.kept t }
