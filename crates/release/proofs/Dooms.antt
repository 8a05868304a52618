-- The search from its first pairs to its end.
use Rattle.std.proofs.Common.{◌≡◌, ℕ, ◌+◌, ◌-◌, ◌*◌, ◌<◌, ◌≤◌, ◌⊎◌, List, [], ◌∷◌, ◌++◌, length, sym, ap, subst, inl, inr, ⊎_elim, arith, length-append}
use native.Mathlib.Decide.{ℕ_discrete}
use Rattle.std.proofs.lemmas.Nat.{mul-le}
use Rattle.model.specs.declared.edge.Step.{Step}
use Rattle.model.specs.declared.number_set.NumberSet.{NumberSet}
use Rattle.model.specs.declared.model.Model.{Model}
use Rattle.model.specs.Relations.{Exactly, Upto}
use Rattle.model.specs.Models.{HasEdge, edges_of}
use Rattle.model.specs.Sets.{Has}
use Rattle.triples.specs.Triples.{size}
use Rattle.model.proofs.Bits.{bit_none}
use Rattle.language.specs.declared.alphabet.Alphabet.{Ghosts as Alphabets}
use Rattle.language.specs.declared.watcher.Watcher.{Ghosts as Watchers}
use Rattle.language.specs.Words.{Word}
use Rattle.language.specs.Tables.{Table, step, Accepts, Complete}
use Rattle.logic.specs.Paths.{edge}
use Rattle.pile.specs.declared.base.Pile.{Pile}
use Rattle.pile.specs.Items.{items}
use Rattle.walks.specs.Releases.{Forced, Bad}
use Rattle.walks.proofs.Breaks.{doomed_breaks, breaks_not_keeps}
use Rattle.walks.proofs.Walks.{seek, kept_outside}
use Rattle.positions.specs.declared.position.Position.{Position}
use Rattle.positions.specs.declared.positions.Positions.{Positions}
use Rattle.positions.specs.declared.search.Search.{Search}
use Rattle.positions.specs.declared.setting.Setting.{Setting}
use Rattle.positions.specs.Looking.{table_of, Looks}
use Rattle.positions.specs.Pairs.{pair, Holds}
use Rattle.positions.specs.Searches.{On, Done, Sound, Roomy, Looked, Ready, BackBy}
use Rattle.positions.specs.Beginnings.{BadBelow}
use Rattle.release.specs.Releases.{Doomed, Released}
use Rattle.positions.proofs.Sizes.{holds_dec, has_dec}
use Rattle.positions.proofs.Marks.{pair_is}
use Rattle.charts.proofs.Sure.{sure}
use Rattle.positions.proofs.Findings.{on_more, found_few, sound_add}

module _ (m : Model) (t : Table) (F : ℕ → Type 0) where
  -- everything that is found waits
  pub ready_start : (rows : List NumberSet) (pile : Pile Position) → ((p : ℕ × ℕ) → Holds rows p → On (items pile) p) → Ready m t F rows pile
  ready_start rows pile all s q b f = let d = f.2 f.1.0 f.1.1 in absurd (d.1 (all _ d.0))

  -- the top of the pile is taken off
  module _ (rows : List NumberSet) (pile lower : Pile Position) (x : Position) (e : items pile ≡ items lower ++ x ∷ []) where
    pub ready_pop : Ready m t F rows pile → (s q : ℕ) → q < t.states → Forced m t F (Done rows lower) s q → Holds rows (s, q) ⊎ Upto (BackBy m t (pair x)) m.actions (s, q)
    ready_pop ready s q b f = go f (seek s (λ y. pair x ≡ (y.state, step t q y.action)) (λ y. same (ℕ_discrete x.state y.state) (ℕ_discrete x.watch (step t q y.action))) (edges_of m))
      where
        same : {a b c d : ℕ} → Dec (a ≡ c) → Dec (b ≡ d) → Dec (◌≡◌ {A = ℕ × ℕ} (a, b) (c, d))
        same {a} {b} {c} {d} (yes e) (yes f) = yes (pair_is (a, b) c d e f)
        same (no n) f = no (λ e. n (ap (λ z. z.0) e))
        same (yes e) (no n) = no (λ e. n (ap (λ z. z.1) e))

        go : Forced m t F (Done rows lower) s q → ((y : Step) × HasEdge m (edge s y) × (pair x ≡ (y.state, step t q y.action))) ⊎ ((y : Step) → HasEdge m (edge s y) → pair x ≡ (y.state, step t q y.action) → ⊥) → Holds rows (s, q) ⊎ Upto (BackBy m t (pair x)) m.actions (s, q)
        go f (inl (y, h, is)) =
            let l = (m.inside (edge s y) h).1 in
            inr (y.action, l, (subst (λ u. HasEdge m (record { from = s; action = y.action; to = u })) (sym (ap (λ z. z.0) is)) h, (b, l, sym (ap (λ z. z.1) is))))
        go (nf, out, all) (inr none) = inl (ready s q b (nf, out, λ y h. ((all y h).0, λ o. ⊎_elim (all y h).1 (λ z. none y h (sym z)) ((on_more (items lower) x).only _ (subst (λ xs. On xs (y.state, step t q y.action)) e o)))))

    -- and the pairs that lead to it have been looked at
    pub ready_looked : {more : List NumberSet} {higher : Pile Position} → Ready m t F rows pile → Looked m t F (Upto (BackBy m t (pair x)) m.actions) rows lower more higher → Ready m t F more higher
    ready_looked ready l s q b f = ⊎_elim (l.keeps (s, q)) (λ u. l.looked (s, q) u f) (ready_pop ready s q b (f.0, f.1, λ y h. l.done _ _ (f.2 y h)))

    -- each turn leaves less to do
    pub turn_less : {more : List NumberSet} {higher : Pile Position} → t.states ≤ 32 → Roomy m t.states more higher → Looked m t F (Upto (BackBy m t (pair x)) m.actions) rows lower more higher → (1024 - size more 32) + length (items higher) < (1024 - size rows 32) + length (items pile)
    turn_less {more} small roomy l =
        let few = found_few m t.states more roomy.inside in
        let most = mul-le m.states t.states 32 32 m.few_states small in
        omega (arith, l.fits, ap length e, length-append (items lower) (x ∷ []))

  -- nothing waits
  pub ready_end : (rows : List NumberSet) (pile : Pile Position) → items pile ≡ [] → Ready m t F rows pile → (s q : ℕ) → q < t.states → Forced m t F (λ u r. Holds rows (u, r)) s q → Holds rows (s, q)
  ready_end rows pile e ready s q b f = ready s q b (f.0, f.1, λ y h. (f.2 y h, λ o. subst (λ xs. On xs (y.state, step t q y.action)) e o))

-- the bad pairs alone are sound
pub sound_bad : (m : Model) (t : Table) (F K : ℕ → Type 0) (rows : List NumberSet) (unkept : ℕ → Type 0) → t.states ≤ 32 → Exactly (Holds rows) (BadBelow t t.states unkept) → ((s : ℕ) → unkept s → (s < m.states) × (K s → ⊥)) → Sound m t F K rows
sound_bad m t F K rows unkept small is un =
    sound_add m t F K small [] rows (BadBelow t t.states unkept) (record { keeps = λ p h. absurd (bit_none p.0 h); puts = λ p d. (is p).1 d; only = λ p h. inr ((is p).0 h) })
    (λ p d. let u = un p.0 d.2 in (u.0, d.0, inl (d.1, u.1))) (λ p h. absurd (bit_none p.0 h))

-- sound, with the bad pairs, and closed
pub doomed_all : (m : Model) (t : Table) (freeing kept : NumberSet) (rows : List NumberSet) → Complete m.actions t → Sound m t (Has freeing) (Has kept) rows
    → ((s q : ℕ) → s < m.states → q < t.states → Bad t (Has kept) s q → Holds rows (s, q)) → ((s q : ℕ) → q < t.states → Forced m t (Has freeing) (λ u r. Holds rows (u, r)) s q → Holds rows (s, q)) → Doomed m t (Has freeing) (Has kept) rows
doomed_all m t freeing kept rows whole sound bads closed = record {
  inside = λ s q h. ((sound (s, q) h).0, (sound (s, q) h).1);
  breaks = λ s q h π. let (n, l, b) = doomed_breaks m t (Has freeing) (Has kept) (size rows 32) s q (sound (s, q) h).2 π in (n, omega (arith, found_few m t.states rows (λ p x. ((sound p x).0, (sound p x).1))), b);
  kept = kept_outside m t (Has freeing) (Has kept) (λ s q. Holds rows (s, q)) whole (has_dec freeing) (has_dec kept) (λ s q. holds_dec rows (s, q)) clear;
  clear = clear;
}
  where
    clear : (s q : ℕ) → s < m.states → q < t.states → (Holds rows (s, q) → ⊥) → (Bad t (Has kept) s q → ⊥) × (Forced m t (Has freeing) (λ u r. Holds rows (u, r)) s q → ⊥)
    clear s q a b n = (λ bad. n (bads s q a b bad), λ f. n (closed s q b f))

-- the states of the model that another set lacks
pub states_without : (m : Model) (n : ℕ) (all other left : NumberSet) → n ≡ m.states → Exactly (Has all) (λ s. (s < n) × (s < 32)) → Exactly (Has left) (λ s. Has all s × (Has other s → ⊥)) → Exactly (Has left) (λ s. (s < m.states) × (Has other s → ⊥))
states_without m n all other left is alls lefts s =
    (λ h. let (a, un) = (lefts s).0 h in (omega (arith, ((alls s).0 a).0), un), λ h. (lefts s).1 ((alls s).1 (omega (arith, h.0), omega (arith, h.0, m.few_states)), h.1))

-- the states whose pair with the start is not doomed
pub released : (m : Model) (t : Table) (F K : ℕ → Type 0) (rows : List NumberSet) (set : NumberSet) → t.start < t.states → Doomed m t F K rows → Exactly (Has set) (λ s. (s < m.states) × (Holds rows (s, t.start) → ⊥))
    → Released m F K (Accepts t) (m.states * t.states) set
released m t F K rows set b doomed is = record {
  exact = λ s. (
    λ h. let (a, n) = (is s).0 h in (a, doomed.kept s t.start a b n),
    λ h. let (a, (π, keeps)) = h in (is s).1 (a, λ x. let (n, l, breaks) = doomed.breaks s t.start x π in breaks_not_keeps m t F K t.start n π breaks keeps),
  );
  breaks = λ s a n π. doomed.breaks s t.start (sure (holds_dec rows (s, t.start)) (λ x. n ((is s).1 (a, x)))) π;
}

-- the same words under another name
pub released_words : (m : Model) (F K : ℕ → Type 0) (W U : Word → Type 0) (n : ℕ) (set : NumberSet) → ((w : Word) → W w → U w) → ((w : Word) → U w → W w) → Released m F K W n set → Released m F K U n set
released_words m F K W U n set to from r = record {
  exact = λ s. (λ h. let (a, (π, keeps)) = (r.exact s).0 h in (a, (π, λ i o u. keeps i o (from _ u))), λ h. let (a, (π, keeps)) = h in (r.exact s).1 (a, (π, λ i o w. keeps i o (to _ w))));
  breaks = λ s a un π. let (k, l, (o, w, nk, nf)) = r.breaks s a un π in (k, l, (o, to _ w, nk, nf));
}

module _ {W : Type 0} {w : Watchers W} {a : Alphabets W} where
  -- one turn of a search, told by an equal setting: the top is taken off the pile, and the pairs that lead to it are looked
  -- at
  pub turn : (s : Setting W w a) (x lower y : Search W w a) (top : Position) → lower.setting ≡ s → lower.found ≡ x.found → Looks (Upto (BackBy lower.setting.watched.model.now (table_of lower.setting) (pair top)) lower.setting.watched.model.now.actions) lower y
      → Looked s.watched.model.now (table_of s) (Has s.freeing) (Upto (BackBy s.watched.model.now (table_of s) (pair top)) s.watched.model.now.actions) x.found.rows lower.pile y.found.rows y.pile
  turn s x lower y top same found looks =
      let T : Setting W w a → Positions → Type 0 = λ k f. Looked k.watched.model.now (table_of k) (Has k.freeing) (Upto (BackBy k.watched.model.now (table_of k) (pair top)) k.watched.model.now.actions) f.rows lower.pile y.found.rows y.pile in
      subst (λ k. T k x.found) same (subst (T lower.setting) found looks.looked)

  -- what a search says of its setting it says of what the setting was made of
  pub doomed_by : (s : Setting W w a) (watcher : W) (m : Model) (freeing : NumberSet) (K : ℕ → Type 0) (rows : List NumberSet) → s.watched.watcher.now ≡ watcher → s.watched.model.now ≡ m → s.freeing ≡ freeing
      → Doomed s.watched.model.now (table_of s) (Has s.freeing) K rows → Doomed m (w.table watcher) (Has freeing) K rows
  doomed_by s watcher m freeing K rows e f h d =
      subst (λ x. Doomed m (w.table x) (Has freeing) K rows) e (subst (λ x. Doomed x (table_of s) (Has freeing) K rows) f (subst (λ x. Doomed s.watched.model.now (table_of s) (Has x) K rows) h d))
