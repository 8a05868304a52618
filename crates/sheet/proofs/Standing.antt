-- A sheet that stands under a book stands under the longer book after a question is added.
use Rattle.std.proofs.Common.{◌≡◌, ℕ, ◌+◌, ◌<◌, [], ◌∷◌, ◌++◌, List, length, Some, None, Ok, Err, Option, sym, refl, ap, ◌∙◌, subst, inl, inr, arith}
use Rattle.std.proofs.lemmas.List.{length_push, get_or_push, get_or_append_left}
use Rattle.std.proofs.lemmas.Bool.{cases_lt}
use Rattle.model.specs.declared.number_set.NumberSet.{NumberSet}
use Rattle.model.specs.declared.refusal.Refusal.{Refusal}
use Rattle.model.specs.Refusals.{number}
use Rattle.model.specs.Relations.{Exactly}
use Rattle.model.specs.Sets.{Has}
use Rattle.logic.specs.Formulas.{Formula, neg, or, until, release}
use Rattle.sheet.specs.declared.sheet.Sheet.{Sheet}
use Rattle.sheet.specs.declared.question.Question.{Question}
use Rattle.sheet.specs.declared.question.Form.{Form}
use Rattle.sheet.specs.declared.question.Form.TheVariants.{Proposition, Not, Or, Until, Release}
use Rattle.sheet.specs.Orders.{at, Part, Added}
use Rattle.sheet.specs.Books.{Book, formula, Reads, Marks, Stands, model_of}
use Rattle.sheet.specs.Asking.{Right, Asked}

-- after one question more
module _ (before after : List Question) (x : Question) (added : Added before after x) where
  longer : length after ≡ length before + 1
  longer = ap length added ∙ length_push before x

  newest : at after (length before) ≡ x
  newest = ap (λ qs. at qs (length before)) added ∙ get_or_push before x _ (length before) refl

  -- what holds of each question and of the new one holds of each
  each_more : (P : ℕ → Question → Type 0) → ((k : ℕ) → k < length before → P k (at before k)) → P (length before) x → (k : ℕ) → k < length after → P k (at after k)
  each_more P each here k h = elim (cases_lt k (length before)) [
    | inl l ↦ subst (λ y. P k y) (sym (ap (λ qs. at qs k) added ∙ get_or_append_left before (x ∷ []) _ k l)) (each k l)
    | inr l ↦ let e : length before ≡ k = omega (arith, longer) in subst (λ n. P n (at after n)) e (subst (λ y. P (length before) y) (sym newest) here)
  ]

-- a form reads the same in a longer book, if its parts are in the shorter one
reads_more : (book : Book) (g : Formula) (form : Form) (f : Formula) → ((p : ℕ) → Part form p → p < length book) → Reads book form f → Reads (book ++ g ∷ []) form f
reads_more book g form f low = go form low
  where
    same : (p : ℕ) → p < length book → formula book p ≡ formula (book ++ g ∷ []) p
    same p h = sym (get_or_append_left book (g ∷ []) _ p h)

    both : (a b : ℕ) → a < length book → b < length book → (F : Formula → Formula → Formula) → F (formula book a) (formula book b) ≡ F (formula (book ++ g ∷ []) a) (formula (book ++ g ∷ []) b)
    both a b la lb F = ap (λ x. F x (formula book b)) (same a la) ∙ ap (λ y. F (formula (book ++ g ∷ []) a) y) (same b lb)

    go : (form : Form) → ((p : ℕ) → Part form p → p < length book) → Reads book form f → Reads (book ++ g ∷ []) form f
    go (Proposition p) low r = r
    go (Not a) low r = r ∙ ap neg (same a (low a refl))
    go (Or a b) low r = r ∙ both a b (low a (inl refl)) (low b (inr refl)) (λ x y. or x y)
    go (Until a b) low r = (r.0, r.1 ∙ both a b (low a (inl refl)) (low b (inr refl)) (λ x y. until x y r.0))
    go (Release a b) low r = (r.0, r.1 ∙ both a b (low a (inl refl)) (low b (inr refl)) (λ x y. release x y r.0))

pub stands_more : (old new : Sheet) (book : Book) (x : Question) (f : Formula) → model_of new ≡ model_of old → Stands book old → Added old.questions.items new.questions.items x → Marks (model_of old) f x.marks → Reads book x.form f → Stands (book ++ f ∷ []) new
stands_more old new book x f same st ad mk re = record {
  long = length_push book f ∙ ap (λ n. n + 1) st.long ∙ sym more;
  right = subst (λ m. (q : ℕ) → q < length after → Marks m (formula (book ++ f ∷ []) q) (at after q).marks) (sym same)
      (each_more before after x ad (λ q y. Marks (model_of old) (formula (book ++ f ∷ []) q) y.marks)
      (λ q h. subst (λ g. Marks (model_of old) g (at before q).marks) (sym (kept q h)) (st.right q h))
      (subst (λ g. Marks (model_of old) g x.marks) (sym last) mk));
  shaped = each_more before after x ad (λ q y. Reads (book ++ f ∷ []) y.form (formula (book ++ f ∷ []) q))
      (λ q h. subst (λ g. Reads (book ++ f ∷ []) (at before q).form g) (sym (kept q h))
      (reads_more book f (at before q).form (formula book q) (λ p t. omega (arith, st.long, old.lower q p h t)) (st.shaped q h)))
      (subst (λ g. Reads (book ++ f ∷ []) x.form g) (sym last)
      (reads_more book f x.form f (λ p t. omega (arith, st.long, new.lower (length before) p (omega (arith, more)) (subst (λ y. Part y.form p) (sym (newest before after x ad)) t))) re));
}
  where
    before : List Question
    before = old.questions.items

    after : List Question
    after = new.questions.items

    more : length after ≡ length before + 1
    more = longer before after x ad

    kept : (q : ℕ) → q < length before → formula (book ++ f ∷ []) q ≡ formula book q
    kept q h = get_or_append_left book (f ∷ []) _ q (omega (arith, st.long))

    last : formula (book ++ f ∷ []) (length before) ≡ f
    last = get_or_push book f _ (length before) st.long

-- what an accepted asking call promises, from what it did
module _ (old new : Sheet) (Cause : ℕ → Option ℕ → Type 0) (form : Form) (M : ℕ → Type 0) (f : Book → Formula) (x : NumberSet) (r : ℕ)
    (free : Cause (length old.questions.items) None) (number : r ≡ length old.questions.items) (same : model_of new ≡ model_of old)
    (added : Added old.questions.items new.questions.items (record { form = form; marks = x })) (exact : Exactly (Has x) M)
    (marks : (book : Book) → Stands book old → Marks (model_of old) (f book) x) (reads : (book : Book) → Reads book form (f book)) where
  right : (book : Book) → Stands book old → Right old new Cause f (Ok r) book
  right book st = record {
    refused = subst (λ n. Cause n None) (sym st.long) free;
    number = number ∙ sym st.long;
    leaves = stands_more old new book (record { form = form; marks = x }) (f book) same st added (marks book st) (reads book);
  }

  pub asked : Asked old new Cause form M f (Ok r)
  asked = record { cause = free; done = (number, record { marks = x; exact = exact; added = added; model = same }); right = right }

-- what a refused asking call promises: the sheet is as it was
pub asked_refused : (sheet : Sheet) (Cause : ℕ → Option ℕ → Type 0) (form : Form) (M : ℕ → Type 0) (f : Book → Formula) (e : Refusal) → Cause (length sheet.questions.items) (Some (number e)) → Asked sheet sheet Cause form M f (Err e)
asked_refused sheet Cause form M f e met = record {
  cause = met;
  done = refl;
  right = λ book st. record { refused = subst (λ n. Cause n (Some (number e))) (sym st.long) met; number = tt; leaves = st };
}
