-- A fresh engine is written where there is room: a walk of the MIR by hand.
use Rattle.std.proofs.Common.{List, [], ◌∷◌, ◌++◌, refl, sym, ap, ◌∙◌}
use Rattle.std.proofs.raw_atomic.Walks.{proved_at}
use base.Fraction.{full_share}
use base.Logic.{sep, id⊢}
use base.Fml.{ftrue}
use borrow.Table.OneValue.{part_in}
use mir.Val.{Val, vunit}
use types.Logic.{sem}
use contract.Monad.{fact}
use contract.Running.{tables}
use prog.Wp.{WpFn}
use types.Kit.{‵, raw, ◌⊛◌, some, later, prop, ◌$◌, ◌∵◌, !, qed, done, move, keep, drop, use1, use2, split, join, pick, await, regoal, rewrite, at_ret, fsplit, suffices, frame, group, feq_i, show}
use types.Run.{enter, of_opd, unit_lit, init, stop, fld, no_more, assigns_last, first, blocks, exec, returns}
use types.Part.{whole, sub}
use Rattle.std.proofs.VecSteps.Shapes.{after}
use types.ByLocal.{alloc_all, pass_all, free_all, look_at, get, get_in, through, sets, lands_as, env}
use denote.Laws.{Is, shows}
use denote.RawPtr.{Ptr, block_ptr, lies_at, room_at, in_a_block}
use denote.Signature.{plain}
use denote.Steps.{nothing, peeks, heard}
use denote.Triple.Call.{calls_at}
use denote.Triple.Clauses.{lasts}
use denote.Triple.Spec.{triple_of}
use denote.Triple.Table.{framed}
use denote.Triple.Walked.{Stays, walk_of, stay_dropped, says, ends_at}
use Rattle.engine.specs.declared.engine.Engine.{Engine}
use Rattle.engine.specs.contracts.engine.Engine.{the_row as E}
use Rattle.linked.specs.History.{MadeFresh}
use Rattle.linked.specs.contracts.fresh.fresh as g
use Rattle.linked.proofs.fresh.fresh.Met.{met}
use Rattle.engine.proofs.engine.Engine.TheLaws as laws
use Rattle.linked.specs.contracts.fresh.Room.{the_row as Room}
use Rattle.linked.proofs.fresh.Room.TheLaws.{lowers}
use Rattle.std.proofs.alloc.Calls.{Goes-blank}
use Rattle.linked.specs.contracts.fresh.gorsepick_fresh as f
use Rattle.linked.proofs.fresh.gorsepick_fresh.Statement.{statement}
use Rattle.linked.proofs.fresh.gorsepick_fresh.Code as code

abbrev stayed : Stays f.ended.signature.params f.ended.kept
stayed = (stay_dropped (plain (λ _. Room)) f.ended.kept.0, tt)

pub gorsepick_fresh_spec : {M : Type 1} → statement M
gorsepick_fresh_spec 𝓤 𝓛 𝓜 𝓡 wired =
    let c = f.clauses 𝓛 𝓜.mem 𝓡.returns in let W = walk_of 𝓛 f.ended stayed c in let 𝓣 = tables 𝓤 𝓛.H 𝓜 𝓡 𝓡.env in
    proved_at 𝓛 f.ended stayed c 𝓜 𝓡 (Goes-blank 𝓛 0 (plain (λ _. Room)) f.ended.kept.0 (λ κs x w. tt), tt)
    f.Key.name code.function (code.unfolded 𝓤 𝓛.H 𝓜 𝓡 wired) (λ y are.
    let Post = W.post y in let room = y.0.3.0 in let us = y.0.4.0 in
    let G = triple_of 𝓛 g.signature (g.spec 𝓛 𝓜.mem 𝓡.returns) in
    let z : G.Ghost = ((tt, tt, tt, tt, tt), tt) in
    qed 𝓛 ((‵ ftrue ⊛ (‵ (Room.own_val room us) ⊛ ‵ ftrue)) ∷ ‵ ftrue ∷ []) ∵
    split ! $ move ! (1 ∷ []) $ split ! $ keep ! (0 ∷ []) $ fsplit ! $ keep ! (1 ∷ []) $
    in_a_block ! room.at (λ p. room_at E p) (id⊢ 𝓤 _) (λ b o e.
    regoal ! (λ (vs : List Val). prop (WpFn 𝓤 𝓛.H 𝓣.C 𝓣.Λ code.function vs Post)) (λ i. (lowers.val_is room us are.0 ∙ ap (λ (p : Ptr). lowers.lowered (record { at = p }) ∷ []) e) i ++ []) refl $
    enter ! _ _ _ _ _ $ alloc_all ! (λ l. pass_all ! refl ((tt, (tt, tt)), tt) $
    let En = env code.Mir.locals l in
    -- [the room; the locals]
    sets ! (of_opd ! (get_in ! (fld ! refl (stop !)) (sub ! 0 refl (whole !)))) refl (tt, tt) $
    first ! $ blocks ! $
    nothing ! $ nothing ! $ join ! $ nothing ! $ move ! (1 ∷ 0 ∷ []) $ use2 𝓛 (raw (G.pre z)) (id⊢ 𝓤 _) $
    calls_at ! (framed 𝓤 𝓛.H 𝓜 (tables 𝓤 𝓛.H 𝓜 𝓡 𝓡.env)) G (met 𝓤 𝓛 𝓜 𝓡 (code.calls-linked::fresh::fresh 𝓡.env wired)) z (no_more !) (λ v.
    use1 𝓛 (later (some (λ (r : Engine). (‵ ftrue ⊛ ‵ (E.own_val r (v ∷ []))) ⊛
    some (λ (ws : Unit {0}). ‵ (lasts g.ended tt tt ws) ⊛ raw (fact 𝓤 (MadeFresh r)))))) (id⊢ 𝓤 _) $
    await ! tt $ pick ! (λ r. split ! $ split ! $ drop ! $
    peeks ! E (Is E) (shows 𝓛 E) r (v ∷ []) (λ is.
    let typed = ((laws.the_row_laws.lawful 𝓛).typed r (v ∷ []) is).0 in
    move ! (1 ∷ []) $ pick ! (λ ws. split ! $ drop ! $ heard ! (MadeFresh r) (λ fresh.
    lands_as ! refl refl typed $
    assigns_last ! (of_opd ! (get ! refl)) (through ! refl (stop !)) (init ! 1 refl typed) $
    exec ! 𝓣.C 𝓣.Λ En (after 2 (code.function).body) (at_ret En Post) $
    sets ! (of_opd ! (unit_lit !)) refl (tt, tt) $
    returns ! (look_at ! 0 refl) $ free_all ! refl $
    move ! (1 ∷ 0 ∷ []) $ use2 𝓛 (‵ (lies_at E full_share (block_ptr b o) r)) (part_in 𝓛 E refl full_share r b o v) $ keep ! (0 ∷ []) $
    rewrite ! 0 (λ (p : Ptr). ‵ (lies_at E full_share p r)) (sym e) refl $
    suffices ! _ (ends_at 𝓛 f.ended stayed c y vunit tt (tt, tt) (tt, tt)) $
    feq_i ! _ (vunit ∷ []) _ refl $ nothing ! $ nothing ! $ join ! $ nothing ! $ group ! 3 $ frame ! $
    show ! (λ (w : Engine). sep 𝓤 (sem 𝓛 (lies_at E full_share room.at w)) (fact 𝓤 (MadeFresh w))) r $ says ! fresh $ done !))))))))
