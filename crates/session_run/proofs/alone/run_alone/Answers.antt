use Rattle.std.proofs.Common.{◌≡◌, ◌+◌, ◌*◌, ◌++◌, ◌∷◌, [], ◌∙◌, ℕ, take, drop, refl, sym, subst, arith}
use Rattle.std.proofs.lemmas.List.{take_more, take-append-drop}
use Rattle.session_run.specs.Turns.{at_place, at_work}
use Rattle.session_run.specs.declared.place.Place.{Place}
use Rattle.session_run.specs.Ran.{Ran, Stopped, OnlyOwn}
use Rattle.session_run.proofs.Runs.{ran_on, stopped_amid}
use Rattle.session_run.proofs.AloneCalls.{own_on, on_err}
use Rattle.session_run.proofs.alone.run_alone.Goals as goal

pub loop-command-preserved : goal.loop-command-preserved
loop-command-preserved g c =
    let i = c.loop-command.command-index in
    let commands = c.args.commands.now in
    let same = c.loop-command.invariant.who in
    let ran = subst (λ (who : ℕ). Ran who (c.command-item.result ∷ []) (at_place c.loop-command.alone c.loop-command.place c.loop-command.actor) (at_place c.command_alone.new.alone c.command_alone.new.place c.command_alone.new.actor)) same c.in_ok-command_alone.ensures.ran in
    let own = subst (λ (who : ℕ). OnlyOwn who 257 c.loop-command.alone c.command_alone.new.alone) same c.command_alone.ensures.own in
    record {
      who = c.command_alone.ensures.who ∙ same;
      ran = rw (take_more commands i c.command-item.result c.loop-command-test.true, ← c.command-item.is)
          (ran_on c.args.actor.now.who (take i commands) (c.command-item.result ∷ []) _ _ _ c.loop-command.invariant.ran ran);
      alone = own_on c.args.actor.now.who (257 * i) 257 (257 * (i + 1)) _ _ _ (omega arith) c.loop-command.invariant.alone own;
    }

pub returns-in_err-command_alone-clause-stopped : goal.returns-in_err-command_alone-clause-stopped
returns-in_err-command_alone-clause-stopped g c =
    let i = c.loop-command.command-index in
    let commands = c.args.commands.now in
    let same = c.loop-command.invariant.who in
    let item = c.command-item.result in
    let stopped = subst (λ (who : ℕ). Stopped who (item ∷ []) (at_place c.loop-command.alone c.loop-command.place c.loop-command.actor) (at_place c.command_alone.new.alone c.command_alone.new.place c.command_alone.new.actor)) same c.in_err-command_alone.ensures.stopped in
    let more : take (i + 1) commands ≡ take i commands ++ item ∷ [] = rw (take_more commands i item c.loop-command-test.true, ← c.command-item.is) refl in
    let parts : commands ≡ (take i commands ++ item ∷ []) ++ drop (i + 1) commands
    = sym (subst (λ (l : _). l ++ drop (i + 1) commands ≡ commands) more (take-append-drop (i + 1) commands)) in
    let all = stopped_amid c.args.actor.now.who (take i commands) item (drop (i + 1) commands) commands _ _ _ parts c.loop-command.invariant.ran stopped in
    on_err _ (subst (λ (p : Place). Stopped c.args.actor.now.who commands (at_work c.args.alone.now c.args.actor.now) (at_place c.command_alone.new.alone p c.command_alone.new.actor)) stopped.work.place all)
