-- How a plan is printed (this project's).
use Rattle.std.specs.Prelude.{ℕ, zero, suc, Bool, true, false, List, [], ◌∷◌, ◌++◌, codes}
use Rattle.std.specs.Fmt.{decimal}
use Rattle.gcx_base.specs.declared.steps.Step.{Step}
use Rattle.gcx_model.specs.Core.{RoleTarget, Own, First, Whole, OffTree, ItemTree, Write, Copy, For, If, SignOff, BodyTree, Nil, Then, VarRowTree, RoleRowTree, PlanTree}
use Rattle.xq_normal.specs.ConditionText.{cond_text, step_text, steps_text}
use Rattle.xq_print.specs.Printed.{joined}

-- a line with its end
abbrev pub line : List ℕ → List ℕ
line text = text ++ 10 ∷ []

-- texts with a space between each two
abbrev pub words : List (List ℕ) → List ℕ
words texts = joined (codes " ") texts

-- ---- Variables and roles

abbrev pub reach_text : (straight : Bool) → (fsa : ℕ) → List ℕ
reach_text true fsa = codes "straight"
reach_text false fsa = codes "fsa " ++ decimal fsa

abbrev pub var_line : (x : ℕ) → VarRowTree → (straight : Bool) → (fsa : ℕ) → List ℕ
var_line x r straight fsa = line (words (codes "var" ∷ decimal x ∷ codes "of" ∷ decimal r.parent ∷ step_text r.step ∷ reach_text straight fsa ∷ []))

-- the lines of the variables from x on
abbrev pub var_lines : (x : ℕ) → List VarRowTree → List Bool → List ℕ → List ℕ
var_lines x [] straight fsa = []
var_lines x (r ∷ rs) [] fsa = []
var_lines x (r ∷ rs) (c ∷ cs) [] = []
var_lines x (r ∷ rs) (c ∷ cs) (b ∷ bs) = var_line x r c b ++ var_lines (suc x) rs cs bs

abbrev pub kind_text : RoleTarget → List ℕ
kind_text Own = codes "own"
kind_text First = codes "first"
kind_text Whole = codes "whole"

-- what stands behind a role's number: a variable's own role has no steps
abbrev pub role_text : RoleTarget → (x : ℕ) → (tail : List Step) → List ℕ
role_text Own x tail = words (kind_text Own ∷ decimal x ∷ [])
role_text First x tail = words (kind_text First ∷ decimal x ∷ steps_text tail ∷ [])
role_text Whole x tail = words (kind_text Whole ∷ decimal x ∷ steps_text tail ∷ [])

abbrev pub role_line : (k : ℕ) → RoleRowTree → List ℕ
role_line k r = line (words (codes "role" ∷ decimal k ∷ role_text r.kind r.var r.tail ∷ []))

-- the lines of the roles from k on
abbrev pub role_lines : (k : ℕ) → List RoleRowTree → List ℕ
role_lines k [] = []
role_lines k (r ∷ rs) = role_line k r ++ role_lines (suc k) rs

-- ---- Items, with one space in front for each loop or branch round them

abbrev pub spaces : ℕ → List ℕ
spaces zero = []
spaces (suc depth) = 32 ∷ spaces depth

abbrev pub off_text : OffTree → List ℕ
off_text o = words (codes "off" ∷ decimal o.base ∷ decimal o.role ∷ steps_text o.rel ∷ steps_text o.tail ∷ kind_text o.kind ∷ [])

abbrev pub loop_text : (x y : ℕ) → Step → List ℕ
loop_text x y s = codes "for " ++ (decimal x ++ (codes " in " ++ (decimal y ++ (codes "/" ++ step_text s))))

-- a line of an item
abbrev pub item_line : (depth : ℕ) → List ℕ → List ℕ
item_line depth text = line (spaces depth ++ text)

abbrev mutual
  pub item_text : ItemTree → (depth : ℕ) → List ℕ
  item_text (Write bytes) depth = item_line depth (codes "write " ++ bytes)
  item_text (Copy x) depth = item_line depth (codes "copy " ++ decimal x)
  item_text (For x y s d) depth = item_line depth (loop_text x y s) ++ body_text d (suc depth)
  item_text (If c this other) depth =
      item_line depth (codes "if " ++ cond_text c) ++ (body_text this (suc depth) ++ (item_line depth (codes "else") ++ body_text other (suc depth)))
  item_text (SignOff o) depth = item_line depth (off_text o)

  pub body_text : BodyTree → (depth : ℕ) → List ℕ
  body_text Nil depth = []
  body_text (Then i d) depth = item_text i depth ++ body_text d depth

-- the text of a plan
abbrev pub explained : PlanTree → List ℕ
explained p =
    line (codes "var 0 root")
    ++ (var_lines 1 p.vars p.straight p.fsa ++ (role_lines 0 p.roles ++ (line (codes "plan") ++ body_text p.body 0)))
