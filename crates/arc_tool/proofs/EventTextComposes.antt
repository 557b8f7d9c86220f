-- The text of events, which is written event by event.
use Rattle.std.proofs.Common.{◌≡◌, ℕ, ◌+◌, ◌<◌, Bool, List, [], ◌∷◌, ◌++◌, drop, get_or, length, Option, Ok, Err, refl, sym, ap, subst, ◌∙◌, append_assoc}
use Rattle.std.proofs.lemmas.List.{drop_more}
use Rattle.arc_spec.specs.declared.event.Event.{Event}
use Rattle.arc_code.specs.declared.code.IoFault.{IoFault}
use Rattle.arc_code.specs.WrittenBytes.{Written}
use Rattle.arc_code.proofs.WritesCompose.{wider, then_ok, then_failed}
use Rattle.arc_tool.specs.TraceLines.{event_text, leaves_open, events_text, open_after}

pub more_events : (names : List (List ℕ)) (begun : Bool) (a b : List Event) → events_text names begun (a ++ b) ≡ events_text names begun a ++ events_text names (open_after begun a) b
more_events names begun [] b = refl
more_events names begun (e ∷ a) b = ap (λ l. event_text names begun e ++ l) (more_events names (leaves_open e) a b) ∙ sym (append_assoc (event_text names begun e) (events_text names (leaves_open e) a) (events_text names (open_after (leaves_open e) a) b))

pub open_further : (begun : Bool) (a b : List Event) → open_after begun (a ++ b) ≡ open_after (open_after begun a) b
open_further begun [] b = refl
open_further begun (e ∷ a) b = open_further (leaves_open e) a b

-- ---- events that are written one after another

module _ (names : List (List ℕ)) (begun b : Bool) (all : List Event) (k : ℕ) (d : Event) (within : k < length all) (text : List ℕ) (so_far : text ++ events_text names b (drop k all) ≡ events_text names begun all) where
  abbrev e : Event
  e = get_or all k d

  abbrev rest : List ℕ
  rest = events_text names (leaves_open e) (drop (k + 1) all)

  with_next : (text ++ event_text names b e) ++ rest ≡ events_text names begun all
  with_next = append_assoc text (event_text names b e) rest ∙ ap (λ l. text ++ l) (sym (ap (events_text names b) (drop_more all k d within))) ∙ so_far

  module _ (h0 h1 h2 : Option (List ℕ)) (f0 f1 f2 : ℕ) (F : Type 0) (done : Written (Ok tt) text h0 h1 f0 f1 F) where
    pub put_on : Written (Ok tt) (event_text names b e) h1 h2 f1 f2 F → (x : List ℕ) × Written (Ok tt) x h0 h2 f0 f2 F × (x ++ rest ≡ events_text names begun all)
    put_on more = (text ++ event_text names b e, then_ok h0 h1 h2 f0 f1 f2 F text (event_text names b e) done more, with_next)

    pub put_cut : (f : IoFault) → Written (Err f) (event_text names b e) h1 h2 f1 f2 F → Written (Err f) (events_text names begun all) h0 h2 f0 f2 F
    put_cut f more = subst (λ l. Written (Err f) l h0 h2 f0 f2 F) with_next (wider f h0 h2 f0 f2 F (text ++ event_text names b e) rest (then_failed f h0 h1 h2 f0 f1 f2 F text (event_text names b e) done more))
