-- The engine behind the pointer is lent, and the handle follows it: a walk of the MIR by hand.
use Rattle.std.proofs.Common.{◌≡◌, ℕ, List, [], ◌∷◌, refl, sym, ap, ◌∙◌}
use Rattle.std.proofs.raw_atomic.Walks.{proved}
use Rattle.std.proofs.VecSteps.Shapes.{after}
use seplogic.Ra.Ura.{Ura}
use base.Fraction.{full_share}
use base.Logic.{ent, sep, id⊢}
use base.Fml.{Fml, GName, ftrue, fsep, flft}
use mir.Syntax.{named}
use mir.Val.{Val, vptr}
use contract.Running.{tables}
use types.Logic.{Logic, sem}
use types.Kit.{‵, raw, ◌⊛◌, some, later, at_ret, ◌$◌, ◌∵◌, !, qed, done, move, keep, use1, split, join, pick, await, fsplit, fsplit3, fjoin, fpack, rewrite, suffices, frame, group}
use types.Part.{whole, sub, look_in}
use types.Run.{enter, of_opd, addr, stop, fld, hop, first, blocks, exec, returns}
use types.ByLocal.{alloc_all, pass_all, free_all, look_at, get, through, sets, sets_last, env}
use denote.Exit.{no}
use denote.Follow.{follows, Part, lends_Part}
use denote.Laws.{shows}
use denote.Memory.{mem, cell_at, part_at, part_of}
use denote.RawPtr.{Ptr, block_ptr, lies_at, in_a_block}
use denote.Ref.{MutBor, MutRef, mut_vals, mut_Tells}
use denote.Signature.{plain, mut_ref_to}
use denote.Steps.{nothing, opens, peeks}
use denote.Struct.Owning.{shape}
use denote.Struct.Struct.{Struct}
use denote.Triple.Walked.{Stays, walk_of, says, stay_dropped, Goes-spent_ref, ends_at}
use Rattle.engine.specs.declared.engine.Engine.{Engine}
use Rattle.engine.specs.contracts.engine.Engine.{the_row as E}
use Rattle.linked.specs.declared.handle.Handle.{Handle}
use Rattle.linked.specs.Handle.{holding}
use Rattle.linked.specs.contracts.handle.Handle.{the_row as R, the_type}
use Rattle.linked.proofs.handle.Handle.TheLaws.{lowers}
use Rattle.linked.specs.contracts.handle.Handle.engine as f
use Rattle.linked.proofs.handle.Handle.engine.Statement.{statement}
use Rattle.linked.proofs.handle.Handle.engine.Code as code

abbrev stayed : Stays f.ended.signature.params f.ended.kept
stayed = (stay_dropped (mut_ref_to (0 ∷ []) tt (plain (λ _. R))) no, tt)

-- all of the handle but its engine
abbrev rest : Handle → List Val → ℕ → ℕ → Fml
rest h us b o = fsep ((Struct (shape the_type)).own_val (h.at, tt) us) (cell_at full_share R.mir us b o)

back : {M : Type 1} {𝓤 : Ura M} (𝓛 : Logic 𝓤) (h : Handle) (us : List Val) (b o b' o' : ℕ) → h.at ≡ block_ptr b' o' → (w : Engine)
    → ent 𝓤 (sep 𝓤 (sem 𝓛 ((mem E).own_at w b' o')) (sem 𝓛 (rest h us b o))) (sem 𝓛 ((mem R).own_at (holding h w) b o))
unfolding part_of
back 𝓛 h us b o b' o' e w =
    qed 𝓛 (‵ (part_at E full_share w b' o') ∷ ‵ (rest h us b o) ∷ []) ∵
    rewrite ! 0 (λ (p : Ptr). ‵ (lies_at E full_share p w)) (sym e) refl $ move ! (1 ∷ []) $ fsplit ! $
    move ! (0 ∷ 2 ∷ []) $ fjoin ! $ move ! (1 ∷ 0 ∷ []) $ fjoin ! $
    fpack ! (List Val) (λ vs. fsep (cell_at full_share R.mir vs b o) (R.own_val (holding h w) vs)) us $ done !

pub engine_spec : {M : Type 1} → statement M
engine_spec 𝓤 𝓛 𝓜 𝓡 wired =
    let c = f.clauses 𝓛 𝓜.mem 𝓡.returns in let W = walk_of 𝓛 f.ended stayed c in let 𝓣 = tables 𝓤 𝓛.H 𝓜 𝓡 𝓡.env in
    proved 𝓛 f.ended stayed c 𝓜 𝓡 (Goes-spent_ref 𝓛 1 (0 ∷ []) tt (plain (λ _. R)), tt)
    f.Key.name code.function (code.unfolded 𝓤 𝓛.H 𝓜 𝓡 wired)
    (λ κs. (mut_vals, tt)) (λ κs. (mut_Tells (named 0) κs.0 R, tt)) (λ κs qs bounds a _ are.
    let κ = κs.0 in let q = qs.0 in let γ = a.0.ghost_name in let b = a.0.ref_ptr.0 in let o = a.0.ref_ptr.1 in let h = a.0.now in let vs = mut_vals a.0 in
    let lent : ℕ → ℕ → GName → MutBor Engine = λ b' o' γ'. record { ref_ptr = (b', o'); ghost_name = γ'; now = h.engine } in
    let y : W.Ghost = ((κs, qs, bounds, a, (vs, tt)), tt) in
    qed 𝓛 (((‵ (flft κ q) ⊛ ‵ ftrue) ⊛ ‵ ((MutRef (named 0) κ R).own_val a.0 vs) ⊛ ‵ ftrue) ∷ ‵ ftrue ∷ []) ∵
    split ! $ split ! $ move ! (2 ∷ []) $ split ! $ keep ! (0 ∷ 2 ∷ []) $
    enter ! _ _ _ _ _ $ alloc_all ! (λ l. pass_all ! refl ((tt, tt), tt) $
    fsplit3 ! $ move ! (1 ∷ 2 ∷ 3 ∷ []) $ opens ! tt R b o (λ us.
    move ! (1 ∷ []) $ peeks ! R _ (shows 𝓛 R) h us (λ is. fsplit ! $ move ! (1 ∷ []) $
    in_a_block ! h.at (λ p. lies_at E full_share p h.engine) (id⊢ 𝓤 _) (λ b' o' e.
    let word = lowers.val_is h us is ∙ ap (λ (p : Ptr). lowers.lowered (record h { at = p }) ∷ []) e in
    let Cell = λ (ws : List Val). ‵ (cell_at full_share R.mir ws b o) in
    rewrite ! 2 Cell word refl $
    -- [the engine; what the fields own; the handle's cell; the open borrow, in three entries]
    first ! $ blocks ! $
    sets_last ! (addr ! (through ! refl (fld ! refl (hop ! (look_in ! 2 (sub ! 0 refl (whole !))) (stop !))))) refl (tt, tt) $
    exec ! 𝓣.C 𝓣.Λ (env code.Mir.locals l) (after 1 (code.function).body) (at_ret _ (W.post y)) $
    sets ! (of_opd ! (get ! refl)) refl (tt, tt) $
    rewrite ! 2 Cell (sym word) refl $
    move ! (1 ∷ 2 ∷ []) $ fjoin ! $ move ! (2 ∷ 3 ∷ 4 ∷ 1 ∷ 0 ∷ []) $ group ! 5 $
    use1 𝓛 (later (some (λ (γ' : GName). raw (Part 𝓛 R E (holding h) (named 0) κ q b o b' o' γ (sem 𝓛 (rest h us b o)) (back 𝓛 h us b o b' o' e) h.engine γ'))))
    (lends_Part 𝓛 R E (holding h) (named 0) κ q b o b' o' γ (sem 𝓛 (rest h us b o)) (back 𝓛 h us b o b' o' e) (R.coded.code h) (R.coded.code h) h.engine) $ await ! tt $ pick ! (λ γ'.
    returns ! (look_at ! 0 refl) $ free_all ! refl $ keep ! (0 ∷ []) $
    use1 𝓛 (‵ ((MutRef (named 0) κ E).own_val (lent b' o' γ') (vptr b' o' ∷ [])) ⊛ ‵ (flft κ q) ⊛ ‵ (follows R E γ γ' (holding h))) (id⊢ 𝓤 _) $ split ! $ move ! (1 ∷ []) $ split ! $ move ! (2 ∷ []) $
    suffices ! _ (ends_at 𝓛 f.ended stayed c y (vptr b' o') (lent b' o' γ') (tt, tt) (tt, tt)) $
    nothing ! $ nothing ! $ fjoin ! $ join ! $ nothing ! $ move ! (2 ∷ 0 ∷ []) $ join ! $ join ! $ frame ! $ says ! refl $ done !))))))
