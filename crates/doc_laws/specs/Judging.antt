-- Steps within limits: a step of the machine, and then the limits (this project's).
use Rattle.std.specs.Prelude.{ℕ, ◌+◌, ◌-◌, Bool, false, ◌&&◌, List, [], ◌∷◌, length, nat_lt, nat_le, Option, Some, None, Result, Ok, Err, if◌then◌else◌}
use Rattle.std.specs.Char.{len_utf8}
use Rattle.gcx_base.specs.Characters.{is_start_char}
use Rattle.gcx_base.specs.declared.limits.Limits.{Limits}
use Rattle.gcx_model.specs.Faults.{DocumentRefusal, AtSyntax, AtDepth, AtName, AtText, Clean, ComesFirst}
use Rattle.doc_laws.specs.Machine.{MachineMode, Less, StartName, StartSpace, AttributeName, State, step}

-- the name of a start tag or of an attribute that is being read, or nothing
abbrev pub naming_by : MachineMode → State → List ℕ
naming_by StartName t = t.name
naming_by AttributeName t = t.attr
naming_by other t = []

-- in which mode a name begins, and how many elements are then open without its own
abbrev pub begins_deep : Limits → State → MachineMode → Bool
begins_deep lim s Less = nat_le lim.depth (length s.names)
begins_deep lim s StartSpace = nat_le lim.depth (length s.names + 1)
begins_deep lim s other = false

abbrev pub is_deep : Limits → State → ℕ → Bool
is_deep lim s c = is_start_char c && begins_deep lim s s.mode

-- the place of a fault of depth
abbrev pub deep_place : ℕ → MachineMode → ℕ
deep_place place Less = place - 1
deep_place place other = place

abbrev pub judged_by : Limits → ℕ → State → ℕ → Option State → Result State DocumentRefusal
judged_by lim place s c None = Err (AtSyntax place)
judged_by lim place s c (Some t) =
    if nat_lt lim.text (length t.run) then Err (AtText place)
    else if is_deep lim s c then Err (AtDepth (deep_place place s.mode))
    else if nat_lt lim.name (length (naming_by t.mode t)) then Err (AtName place)
    else Ok t

-- a step with the character c at this place
abbrev pub judged : Limits → ℕ → State → ℕ → Result State DocumentRefusal
judged lim place s c = judged_by lim place s c (step s c)

abbrev pub on_ok : Result State DocumentRefusal → (State → Result State DocumentRefusal) → Result State DocumentRefusal
on_ok (Err f) k = Err f
on_ok (Ok s) k = k s

-- the state behind characters, or the first refusal
abbrev pub judged_steps : Limits → ℕ → State → List ℕ → Result State DocumentRefusal
judged_steps lim place s [] = Ok s
judged_steps lim place s (c ∷ cs) = on_ok (judged lim place s c) (λ t. judged_steps lim (place + len_utf8 c) t cs)

-- what is said of characters: no fault, or the one that comes first
abbrev pub Told : Limits → List ℕ → Result State DocumentRefusal → Type 0
Told lim b (Ok t) = Clean lim b
Told lim b (Err f) = ComesFirst lim b f
