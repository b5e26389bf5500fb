-- What is answered over a store is answered over its words, and the loan of the words stays. Assumes nothing.
use Rattle.std.proofs.Common.{◌≡◌, ℕ, ◌<◌, ◌≤◌, List, [], ◌∷◌, length, vec_items, Ok, Err, Result, IfOk, OnErr, ap, ◌∙◌, ⊎_elim}
use Rattle.std.proofs.lemmas.Bool.{cases_lt, cases_eq}
use Rattle.pages.specs.Pages.{Put, Chain, numbered}
use Rattle.pages.specs.Flat.{flat_pages, flat_wrote}
use Rattle.pages.specs.Log.{log_pages}
use Rattle.pages.specs.LogStore.{log_wrote}
use Rattle.pages.specs.Load.{Loaded, ImageLoaded}
use Rattle.pages.specs.Image.{image_pages}
use Rattle.pages.specs.declared.StoreFault.{StoreFault}
use Rattle.pages.specs.declared.WriteEntry.{WriteEntry}
use Rattle.pages.specs.declared.flat.Flat.{Flat}
use Rattle.pages.specs.declared.log.Log.{Log}
use Rattle.pages.specs.declared.fault.LoadFault.{LoadFault}
use Rattle.pages.specs.declared.fault.ImageLoadFault.{ImageLoadFault}
use Rattle.pages.specs.declared.fault.ImageLoadFault.TheVariants.{Unread, Unloaded}
use Rattle.script.specs.Script.{decoded}
use Rattle.script.specs.declared.ScriptFault.{ScriptFault}
use Rattle.serial.specs.Machine.{Meaning, Steps}
use Rattle.serial.specs.Alone.{Reached, there, fault, past_end, whole_run}
use Rattle.engine.specs.Alone.{Ran, RanAlone}
use Rattle.engine.specs.declared.alone.AloneFault.{AloneFault}
use Rattle.gorsepick.specs.Answers.{Answered, AnsweredIn}
use Rattle.gorsepick.specs.Kinds.{kind_wrote}
use Rattle.gorsepick.specs.declared.answer.Answer.{Answer}
use Rattle.gorsepick.specs.declared.command.Request.{Request}
use Rattle.gorsepick.specs.declared.command.Request.TheVariants as asked
use Rattle.gorsepick.specs.declared.memory.Kind.TheVariants as of

-- a store whose pages are told by its words, and whose puts write the words in one way
module _ {S : Type 0} (words : S → List ℕ) (wrote : S → ℕ → ℕ → S → Type 0) (told_pages : List ℕ → List ℕ) (told_wrote : List ℕ → ℕ → ℕ → List ℕ → Type 0) (as_told : (s : S) (p w : ℕ) (t : S) → wrote s p w t → told_wrote (words s) p w (words t)) where
  abbrev of_pages : S → List ℕ
  of_pages s = told_pages (words s)

  chain_told : (es : List WriteEntry) (s t : S) → Chain wrote s es t → Chain told_wrote (words s) es (words t)
  chain_told [] s t h = ap words h
  chain_told (e ∷ es) s t h = (words h.0, as_told s e.page e.word h.0 h.1, chain_told es h.0 t h.2)

  put_told : (s : S) (p w : ℕ) (o : Result (Unit {0}) StoreFault) (t : S) → Put of_pages wrote s p w o t → Put told_pages told_wrote (words s) p w o (words t)
  put_told s p w o t h = record {
    accepted = λ below. let a = h.accepted below in (a.0, a.1, as_told s p w t a.2);
    refused = λ past. let r = h.refused past in (r.0, ap words r.1);
  }

  loaded_told : (ws : List ℕ) (s : S) (o : Result (Unit {0}) LoadFault) (t : S) → Loaded of_pages wrote ws s o t → Loaded told_pages told_wrote ws (words s) o (words t)
  loaded_told ws s o t h = record {
    equal = λ e. let l = h.equal e in (l.0, l.1, chain_told (numbered 0 ws) s t l.2);
    unequal = λ n. let l = h.unequal n in (l.0, ap words l.1);
  }

  image_told : (bs : List ℕ) (s : S) (o : Result (Unit {0}) ImageLoadFault) (t : S) → ImageLoaded of_pages wrote bs s o t → ImageLoaded told_pages told_wrote bs (words s) o (words t)
  image_told bs s (Ok x) t h = (h.0, loaded_told (image_pages bs) s (Ok x) t h.1)
  image_told bs s (Err (Unread f)) t h = (h.0, ap words h.1)
  image_told bs s (Err (Unloaded f)) t h = (h.0, loaded_told (image_pages bs) s (Err f) t h.1)

  ran_told : (s : S) (r : Reached) (o : Result (ℕ × ℕ) AloneFault) (t : S) → Ran of_pages wrote s r o t → Ran told_pages told_wrote (words s) r o (words t)
  ran_told s (there e) o t h = (h.0, h.1, chain_told e.own s t h.2)
  ran_told s (fault n p) o t h = (h.0, ap words h.1)
  ran_told s past_end o t h = h

  alone_told : (ar : Meaning) (s : S) (d : Result Steps ScriptFault) (o : Result (ℕ × ℕ) AloneFault) (t : S) → RanAlone of_pages wrote ar s d o t → RanAlone told_pages told_wrote ar (words s) d o (words t)
  alone_told ar s (Ok script) o t h = ran_told s (whole_run ar script (of_pages s)) o t h
  alone_told ar s (Err f) o t h = (h.0, ap words h.1)

  answered_told : (ar : Meaning) (request : Request) (s : S) (a : Answer) (t : S) → Answered of_pages wrote ar request s a t → Answered told_pages told_wrote ar request (words s) a (words t)
  answered_told ar asked.Size s a t h = (h.0, ap words h.1)
  answered_told ar (asked.Get page) s a t h = (h.0, ap words h.1)
  answered_told ar (asked.Put page word) s a t h = (h.0, put_told s page word h.0 t h.1, h.2)
  answered_told ar asked.Pages s a t h = (h.0, ap words h.1)
  answered_told ar (asked.Load bytes) s a t h = (h.0, image_told (vec_items bytes) s h.0 t h.1, h.2)
  answered_told ar (asked.Alone bytes) s a t h = (h.0, alone_told ar s (decoded (vec_items bytes)) h.0 t h.1, h.2)

-- what each put keeps, every answer keeps
module _ {S N : Type 0} (pages : S → List ℕ) (wrote : S → ℕ → ℕ → S → Type 0) (name : S → N) (put_keeps : (s : S) (p w : ℕ) (t : S) → wrote s p w t → name t ≡ name s) where
  chain_keeps : (es : List WriteEntry) (s t : S) → Chain wrote s es t → name t ≡ name s
  chain_keeps [] s t h = ap name h
  chain_keeps (e ∷ es) s t h = chain_keeps es h.0 t h.2 ∙ put_keeps s e.page e.word h.0 h.1

  one_put_keeps : (s : S) (p w : ℕ) (o : Result (Unit {0}) StoreFault) (t : S) → Put pages wrote s p w o t → name t ≡ name s
  one_put_keeps s p w o t h =
      ⊎_elim (λ (below : p < length (pages s)). put_keeps s p w t (h.accepted below).2) (λ (past : length (pages s) ≤ p). ap name (h.refused past).1) (cases_lt p (length (pages s)))

  load_keeps : (ws : List ℕ) (s : S) (o : Result (Unit {0}) LoadFault) (t : S) → Loaded pages wrote ws s o t → name t ≡ name s
  load_keeps ws s o t h =
      ⊎_elim (λ (e : length ws ≡ length (pages s)). chain_keeps (numbered 0 ws) s t (h.equal e).2) (λ (n : length ws ≡ length (pages s) → ⊥). ap name (h.unequal n).1) (cases_eq (length ws) (length (pages s)))

  image_keeps : (bs : List ℕ) (s : S) (o : Result (Unit {0}) ImageLoadFault) (t : S) → ImageLoaded pages wrote bs s o t → name t ≡ name s
  image_keeps bs s (Ok x) t h = load_keeps (image_pages bs) s (Ok x) t h.1
  image_keeps bs s (Err (Unread f)) t h = ap name h.1
  image_keeps bs s (Err (Unloaded f)) t h = load_keeps (image_pages bs) s (Err f) t h.1

  run_keeps : (s : S) (r : Reached) (o : Result (ℕ × ℕ) AloneFault) (t : S) → Ran pages wrote s r o t → name t ≡ name s
  run_keeps s (there e) o t h = chain_keeps e.own s t h.2
  run_keeps s (fault n p) o t h = ap name h.1
  run_keeps s past_end o t h = absurd h

  alone_keeps : (ar : Meaning) (s : S) (d : Result Steps ScriptFault) (o : Result (ℕ × ℕ) AloneFault) (t : S) → RanAlone pages wrote ar s d o t → name t ≡ name s
  alone_keeps ar s (Ok script) o t h = run_keeps s (whole_run ar script (pages s)) o t h
  alone_keeps ar s (Err f) o t h = ap name h.1

  answer_keeps : (ar : Meaning) (request : Request) (s : S) (a : Answer) (t : S) → Answered pages wrote ar request s a t → name t ≡ name s
  answer_keeps ar asked.Size s a t h = ap name h.1
  answer_keeps ar (asked.Get page) s a t h = ap name h.1
  answer_keeps ar (asked.Put page word) s a t h = one_put_keeps s page word h.0 t h.1
  answer_keeps ar asked.Pages s a t h = ap name h.1
  answer_keeps ar (asked.Load bytes) s a t h = image_keeps (vec_items bytes) s h.0 t h.1
  answer_keeps ar (asked.Alone bytes) s a t h = alone_keeps ar s (decoded (vec_items bytes)) h.0 t h.1

-- the same for a result, where want of memory leaves the store as it was
module _ {S E : Type 0} (words : S → List ℕ) (wrote : S → ℕ → ℕ → S → Type 0) (told_pages : List ℕ → List ℕ) (told_wrote : List ℕ → ℕ → ℕ → List ℕ → Type 0) (as_told : (s : S) (p w : ℕ) (t : S) → wrote s p w t → told_wrote (words s) p w (words t)) (ar : Meaning) (request : Request) (s t : S) where
  result_told : (r : Result Answer E) → IfOk r (λ a. Answered (λ x. told_pages (words x)) wrote ar request s a t) → IfOk r (λ a. Answered told_pages told_wrote ar request (words s) a (words t))
  result_told (Ok a) h = answered_told words wrote told_pages told_wrote as_told ar request s a t h
  result_told (Err e) h = tt

module _ {S N E : Type 0} (pages : S → List ℕ) (wrote : S → ℕ → ℕ → S → Type 0) (name : S → N) (put_keeps : (s : S) (p w : ℕ) (t : S) → wrote s p w t → name t ≡ name s) (ar : Meaning) (request : Request) (s t : S) where
  result_keeps : (r : Result Answer E) → IfOk r (λ a. Answered pages wrote ar request s a t) → OnErr r (t ≡ s) → name t ≡ name s
  result_keeps (Ok a) h k = answer_keeps pages wrote name put_keeps ar request s a t h
  result_keeps (Err e) h k = ap name k

pub flat_answered : {E : Type 0} (ar : Meaning) (request : Request) (s t : Flat) (r : Result Answer E) → IfOk r (λ a. Answered (λ x. flat_pages x.words.now) flat_wrote ar request s a t) → IfOk r (λ a. AnsweredIn of.Flat ar request s.words.now a t.words.now)
flat_answered = result_told (λ s. s.words.now) flat_wrote flat_pages (kind_wrote of.Flat) (λ s p w t h. h.0)

pub log_answered : {E : Type 0} (ar : Meaning) (request : Request) (s t : Log) (r : Result Answer E) → IfOk r (λ a. Answered (λ x. log_pages x.words.now) log_wrote ar request s a t) → IfOk r (λ a. AnsweredIn of.Log ar request s.words.now a t.words.now)
log_answered = result_told (λ s. s.words.now) log_wrote log_pages (kind_wrote of.Log) (λ s p w t h. h.0)

pub flat_lender : {E : Type 0} (ar : Meaning) (request : Request) (s t : Flat) (r : Result Answer E) → IfOk r (λ a. Answered (λ x. flat_pages x.words.now) flat_wrote ar request s a t) → OnErr r (t ≡ s) → t.words.ghost_name ≡ s.words.ghost_name
flat_lender = result_keeps (λ s. flat_pages s.words.now) flat_wrote (λ s. s.words.ghost_name) (λ s p w t h. h.1)

pub log_lender : {E : Type 0} (ar : Meaning) (request : Request) (s t : Log) (r : Result Answer E) → IfOk r (λ a. Answered (λ x. log_pages x.words.now) log_wrote ar request s a t) → OnErr r (t ≡ s) → t.words.ghost_name ≡ s.words.ghost_name
log_lender = result_keeps (λ s. log_pages s.words.now) log_wrote (λ s. s.words.ghost_name) (λ s p w t h. h.1)

pub flat_chain : (es : List WriteEntry) (s t : Flat) → Chain flat_wrote s es t → Chain (kind_wrote of.Flat) s.words.now es t.words.now × (t.words.ghost_name ≡ s.words.ghost_name)
flat_chain es s t h =
    (chain_told (λ s. s.words.now) flat_wrote flat_pages (kind_wrote of.Flat) (λ s p w t h. h.0) es s t h, chain_keeps (λ s. flat_pages s.words.now) flat_wrote (λ s. s.words.ghost_name) (λ s p w t h. h.1) es s t h)

pub log_chain : (es : List WriteEntry) (s t : Log) → Chain log_wrote s es t → Chain (kind_wrote of.Log) s.words.now es t.words.now × (t.words.ghost_name ≡ s.words.ghost_name)
log_chain es s t h =
    (chain_told (λ s. s.words.now) log_wrote log_pages (kind_wrote of.Log) (λ s p w t h. h.0) es s t h, chain_keeps (λ s. log_pages s.words.now) log_wrote (λ s. s.words.ghost_name) (λ s p w t h. h.1) es s t h)
