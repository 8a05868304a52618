-- A path call that is right for one account of the good paths is right for every other that agrees with it.
use Rattle.std.proofs.Common.{◌≡◌, ℕ, ◌<◌, ◌≤◌, List, length, take, drop, Some, None, Ok, Err, Option, Result, sym, refl, ap, subst, inl, inr, arith, MatchResult}
use Rattle.std.proofs.lemmas.List.{length-take}
use Rattle.model.specs.declared.edge.Step.{Step}
use Rattle.model.specs.declared.model.Model.{Model}
use Rattle.model.specs.declared.number_set.NumberSet.{NumberSet}
use Rattle.model.specs.declared.refusal.Refusal.{Refusal}
use Rattle.model.specs.Refusals.{number}
use Rattle.model.specs.Sets.{Has}
use Rattle.language.specs.declared.rule.Rule.{Rule}
use Rattle.language.specs.Derivations.{Derives}
use Rattle.language.specs.Words.{Word}
use Rattle.logic.specs.Paths.{Good}
use Rattle.logic.proofs.Mapping.{good_map}
use Rattle.path.specs.Witnesses.{Shows as Found}
use Rattle.sheet.specs.declared.sheet.Sheet.{Sheet}
use Rattle.sheet.specs.Orders.{MarksOf}
use Rattle.sheet.specs.Books.{formula, model_of}
use Rattle.model.specs.declared.refusal.Refusal.TheVariants.{PathTooLong}
use Rattle.sheet.specs.Causes.{Told, TooLong, CausePath, limit}
use Rattle.sheet.specs.Witnesses.{Unless24, Shows, Answered, Witnessed, GoodByMarks, GoodByBook}
use Rattle.sheet.proofs.Chains.{later_like, last_like, path_pass, path_stop, none_good, searchable}
use Rattle.sheet.proofs.Marking.{from_marks, to_marks}

module _ (G G' : List Step → Type 0) (to : (p : List Step) → G p → G' p) (from : (p : List Step) → G' p → G p) where
  too_long_like : {k : ℕ} → TooLong G k → TooLong G' k
  too_long_like t = ((t.0.0, to _ t.0.1), λ p g. t.1 p (from p g))

  shows_like : (before after : List Step) (o : Option ℕ) → Shows G before after o → Shows G' before after o
  shows_like before after None h = (λ p g. h.0 p (from p g), h.1)
  shows_like before after (Some n) h = (h.0, to _ h.1, (λ p g. h.2 p (from p g)), h.3)

module _ (m : Model) (l : Told) (work waiting : ℕ) (before after : List Step) (guard goal s : ℕ) (G G' : List Step → Type 0) (to : (p : List Step) → G p → G' p) (from : (p : List Step) → G' p → G p) where
  pub answered_like : (n : ℕ) (r : Result (Option ℕ) Refusal) → Answered m l work waiting before after guard goal s G n r → Answered m l work waiting before after guard goal s G' n r
  answered_like n r a = record {
    cause = later_like (later_like (later_like (later_like (later_like (later_like (last_like (too_long_like G G' to from) (too_long_like G' G from to))))))) a.cause;
    shows = go r a.shows;
  }
    where
      go : (r : Result (Option ℕ) Refusal) → MatchResult r (λ o. Shows G before after o) (λ _. after ≡ before) → MatchResult r (λ o. Shows G' before after o) (λ _. after ≡ before)
      go (Ok o) h = shows_like G G' to from before after o h
      go (Err e) h = h

module _ (sheet : Sheet) (l : Told) (W : Word → Type 0) (work waiting : ℕ) (before after : List Step) (guard goal s : ℕ) where
  -- a cause before the last stopped the call
  pub witnessed_stopped : (e : Refusal) → CausePath (model_of sheet) l work waiting (length before) guard goal s none_good (length sheet.questions.items) (Some (number e)) → after ≡ before → Witnessed sheet l W work waiting before after guard goal s (Err e)
  witnessed_stopped e met same = record {
    marks = record { cause = path_stop (model_of sheet) l work waiting (length before) guard goal s (length sheet.questions.items) met; shows = same };
    books = λ book st. record {
      cause = path_stop (model_of sheet) l work waiting (length before) guard goal s (length book) (subst (λ n. CausePath (model_of sheet) l work waiting (length before) guard goal s none_good n (Some (number e))) (sym st.long) met);
      shows = same;
    };
  }

  -- the search ran
  pub witnessed_ran : (r : Result (Option ℕ) Refusal) → s < (model_of sheet).states → guard < length sheet.questions.items → goal < length sheet.questions.items
      → ((w : Word) → W w → Derives l.rules 0 w) → ((w : Word) → Derives l.rules 0 w → W w)
      → Answered (model_of sheet) l work waiting before after guard goal s (GoodByMarks sheet guard goal (Derives l.rules 0) s) (length sheet.questions.items) r
      → Witnessed sheet l W work waiting before after guard goal s r
  witnessed_ran r ls lg lh to from a =
      let m : Model = model_of sheet in
      let D : Word → Type 0 = Derives l.rules 0 in
      record {
        marks = answered_like m l work waiting before after guard goal s (GoodByMarks sheet guard goal D s) (GoodByMarks sheet guard goal W s)
            (good_map m _ _ _ _ D W s ls (λ t _ h. h) (λ t _ h. h) from)
            (good_map m _ _ _ _ W D s ls (λ t _ h. h) (λ t _ h. h) to) (length sheet.questions.items) r a;
        books = λ book st. answered_like m l work waiting before after guard goal s (GoodByMarks sheet guard goal D s) (GoodByBook m book guard goal D s)
            (good_map m _ _ _ _ D D s ls (from_marks m (formula book guard) _ (st.right guard lg)) (from_marks m (formula book goal) _ (st.right goal lh)) (λ w d. d))
            (good_map m _ _ _ _ D D s ls (to_marks m (formula book guard) _ (st.right guard lg)) (to_marks m (formula book goal) _ (st.right goal lh)) (λ w d. d)) (length book) r
            (subst (λ n. Answered m l work waiting before after guard goal s (GoodByMarks sheet guard goal D s) n r) (sym st.long) a);
      }

-- what the search shows, as the answer of the call
module _ (m : Model) (l : Told) (work waiting : ℕ) (before after : List Step) (guard goal s n : ℕ) (G : List Step → Type 0) (free : CausePath m l work waiting (length before) guard goal s none_good n None) where
  pub answered_none : ((p : List Step) × G p → ⊥) → after ≡ before → Answered m l work waiting before after guard goal s G n (Ok None)
  answered_none none same = record {
    cause = path_pass m l work waiting (length before) guard goal s n free (inr (λ t. none t.0, refl));
    shows = (λ p g. none (p, g), same);
  }

  pub answered_steps : (k : ℕ) → k ≤ limit (length before) → G (take k after) → ((p : List Step) → G p → k ≤ length p) → drop k after ≡ drop k before → length after ≡ length before → Answered m l work waiting before after guard goal s G n (Ok (Some k))
  answered_steps k fits good least later long = record {
    cause = path_pass m l work waiting (length before) guard goal s n free (inr (λ t. let far = t.1 (take k after) good in omega (arith, length-take k after), refl));
    shows = (omega (arith, long), good, least, later);
  }

  pub answered_long : (p : List Step) × G p → ((p : List Step) → G p → limit (length before) < length p) → after ≡ before → Answered m l work waiting before after guard goal s G n (Err PathTooLong)
  answered_long some longer same = record {
    cause = path_pass m l work waiting (length before) guard goal s n free (inl ((some, longer), refl));
    shows = same;
  }

-- the same, where the search was given the marks of guard and goal under other names
module _ (sheet : Sheet) (l : Told) (W : Word → Type 0) (work waiting : ℕ) (before after : List Step) (guard goal s : ℕ) (a b : NumberSet)
    (parts : MarksOf sheet.questions.items guard goal (a, b))
    (free : CausePath (model_of sheet) l work waiting (length before) guard goal s none_good (length sheet.questions.items) None)
    (to : (w : Word) → W w → Derives l.rules 0 w) (from : (w : Word) → Derives l.rules 0 w → W w) where
  abbrev Searched : List Step → Type 0
  Searched p = Good (model_of sheet) (Has a) (Has b) (Derives l.rules 0) s p

  abbrev Marked : List Step → Type 0
  Marked p = GoodByMarks sheet guard goal (Derives l.rules 0) s p

  by_marks : (p : List Step) → Searched p → Marked p
  by_marks p g = subst (λ (y : NumberSet × NumberSet). Good (model_of sheet) (Has y.0) (Has y.1) (Derives l.rules 0) s p) parts g

  as_searched : (p : List Step) → Marked p → Searched p
  as_searched p g = subst (λ (y : NumberSet × NumberSet). Good (model_of sheet) (Has y.0) (Has y.1) (Derives l.rules 0) s p) (sym parts) g

  ran : (r : Result (Option ℕ) Refusal) → Answered (model_of sheet) l work waiting before after guard goal s Marked (length sheet.questions.items) r → Witnessed sheet l W work waiting before after guard goal s r
  ran r answered =
      let may = searchable (model_of sheet) l work waiting (length before) guard goal s (length sheet.questions.items) free in
      witnessed_ran sheet l W work waiting before after guard goal s r may.state may.guarded may.aimed to from answered

  -- whatever the search shows
  pub witnessed_shown : (r : Result (Option ℕ) Refusal) → Found (model_of sheet) a b l.rules s (limit (length before)) before after r → Witnessed sheet l W work waiting before after guard goal s r
  witnessed_shown (Ok None) (none, same) =
      ran (Ok None) (answered_none (model_of sheet) l work waiting before after guard goal s (length sheet.questions.items) Marked free (λ g. none (g.0, as_searched g.0 g.1)) same)
  witnessed_shown (Ok (Some k)) (fits, good, least, later, long) =
      ran (Ok (Some k)) (answered_steps (model_of sheet) l work waiting before after guard goal s (length sheet.questions.items) Marked free k fits (by_marks _ good) (λ p g. least p (as_searched p g)) later long)
  witnessed_shown (Err e) (is, some, longer, same) =
      rw is (ran (Err PathTooLong) (answered_long (model_of sheet) l work waiting before after guard goal s (length sheet.questions.items) Marked free (some.0, by_marks some.0 some.1) (λ p g. longer p (as_searched p g)) same))

-- the search refuses with 24 alone
pub shown_unless : (m : Model) (a b : NumberSet) (rules : List Rule) (s limit : ℕ) (before after : List Step) (r : Result (Option ℕ) Refusal) (Same : Type 0) → Found m a b rules s limit before after r → Unless24 r Same
shown_unless m a b rules s limit before after (Ok o) Same shown = tt
shown_unless m a b rules s limit before after (Err e) Same shown = λ other. absurd (other (ap number shown.0))
