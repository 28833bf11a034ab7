use Rattle.std.proofs.Common.{ℕ, List, subst}
use Rattle.gcx_model.specs.Members.{In}
use Rattle.path_states.specs.Active.{Tells}
use Rattle.path_states.specs.Lists.{Gains}
use Rattle.path_states.specs.State.{whole_roles}
use Rattle.path_states.specs.declared.paths.PathState.{PathState}
use Rattle.path_states.proofs.Gaining.{gains_none, gains_as}
use Rattle.path_states.proofs.Looking.{read_at, one_at, none_at}
use Rattle.path_states.proofs.outputs.put_whole.Goals as goal

pub returns-in_ok-rise_all-in-Some : goal.returns-in_ok-rise_all-in-Some
returns-in_ok-rise_all-in-Some c =
    let at = read_at c.args.tree.now c.args.number c.in-Some.state.now c.in-Some.ensures.lookup.3.0 c.in-Some.ensures.lookup.1 in
    record {
      gains = gains_as c.args.numbers.now.items c.rise_all.new.numbers.items (λ (y : ℕ). In y c.in-Some.state.now.whole.items) (Tells whole_roles c.args.tree.now c.args.number)
          (λ y i. record { state = c.in-Some.state.now; at = at; member = i })
          (λ y u. subst (λ (z : PathState). In y z.whole.items) (one_at c.args.tree.now c.args.number u.state c.in-Some.state.now u.at at) u.member)
          (subst (λ (z : List ℕ). Gains c.args.numbers.now.items c.rise_all.new.numbers.items (λ (y : ℕ). In y z)) c.deref.ensures.value c.in_ok-rise_all-in-Some.ensures.gains);
      climbs = c.in_ok-rise_all-in-Some.ensures.climbs;
    }

pub returns-in-None : goal.returns-in-None
returns-in-None c = record { gains = gains_none c.args.numbers.now.items (Tells whole_roles c.args.tree.now c.args.number) (λ y u. none_at c.args.tree.now c.args.number u.state c.in-None.ensures.lookup.3 u.at); climbs = λ h. h }
