-- What a cache's entries say of its keys.
use Rattle.std.proofs.Common.{◌≡◌, ℕ, ◌-◌, Bool, true, false, List, [], ◌∷◌, take, Option, Some, None, Vec, bytes_eq, is_some, refl, sym, ap, ◌∙◌, subst, inl, inr}
use Rattle.std.specs.declared.alloc.Global.{Global}
use Rattle.std.specs.List.{list_any}
use Rattle.std.specs.Option.{option_map_or}
use Rattle.std.specs.Map.{lookup, lookup_entry, remove_entry}
use Rattle.std.proofs.lemmas.List.{take-map}
use Rattle.std.proofs.lemmas.Slice.Eq.{bytes_eq-Decides}
use Rattle.lru.specs.LruCache.{LruCache, lru_cache, promoted, put_entries}
use Rattle.lru.proofs.CallerLemmas.{Contains-lookup_entry, Contains-lookup, Contains-promoted, Contains-put_entries}
use Rattle.lru.proofs.Splits.{Contains-nil}
use Rattle.tcl_parse.specs.declared.tree.Script.{Script}
use Rattle.tcl_parse.specs.Outcome.{done}
use Rattle.tcl_parse.specs.Reading.{reading}
use Rattle.tcl_parse.specs.View.{script_of}
use Rattle.parse_cache.specs.Caches.{Cache, is_key, without, raised, hit, added}
use Rattle.parse_cache.specs.Entries.{texts, AreRead}

abbrev pub cache : ℕ → List (List ℕ) → ℕ → Cache
cache capacity keys hits = record { capacity = capacity; keys = keys; hits = hits }

-- a key that has these bytes
abbrev pub is_text : List ℕ → Vec ℕ Global → Bool
is_text t key = bytes_eq t key.items

same : (xs ys : List ℕ) → bytes_eq xs ys ≡ true → xs ≡ ys
same xs ys h = (bytes_eq-Decides xs ys).0 h

module _ {V : Type 0} (t : List ℕ) where
  -- a text is a key exactly where a look-up finds it
  pub any_found : (es : List (Vec ℕ Global × V)) → list_any (bytes_eq t) (texts es) ≡ is_some (lookup (is_text t) es)
  any_found [] = refl
  any_found (e ∷ es) = (elim (is_text t e.0) as (λ b. is_text t e.0 ≡ b → list_any (bytes_eq t) (texts (e ∷ es)) ≡ is_some (lookup (is_text t) (e ∷ es))) [
    | true ↦ λ h. rw h refl
    | false ↦ λ h. rw h (any_found es)
  ]) refl

  pub any_found_entry : (es : List (Vec ℕ Global × V)) → list_any (bytes_eq t) (texts es) ≡ is_some (lookup_entry (is_text t) es)
  any_found_entry [] = refl
  any_found_entry (e ∷ es) = (elim (is_text t e.0) as (λ b. is_text t e.0 ≡ b → list_any (bytes_eq t) (texts (e ∷ es)) ≡ is_some (lookup_entry (is_text t) (e ∷ es))) [
    | true ↦ λ h. rw h refl
    | false ↦ λ h. rw h (any_found_entry es)
  ]) refl

  pub texts_without : (es : List (Vec ℕ Global × V)) → texts (remove_entry (is_text t) es) ≡ without t (texts es)
  texts_without [] = refl
  texts_without (e ∷ es) = (elim (is_text t e.0) as (λ b. is_text t e.0 ≡ b → texts (remove_entry (is_text t) (e ∷ es)) ≡ without t (texts (e ∷ es))) [
    | true ↦ λ h. rw h refl
    | false ↦ λ h. rw h (ap (λ ks. e.0.items ∷ ks) (texts_without es))
  ]) refl

  to_front : (es : List (Vec ℕ Global × V)) (o : Option (Vec ℕ Global × V)) → lookup_entry (is_text t) es ≡ o → is_some o ≡ true
      → texts (option_map_or (λ e. e ∷ remove_entry (is_text t) es) o es) ≡ t ∷ without t (texts es)
  to_front es None h there = cc
  to_front es (Some e) h there =
      let was = same t e.0.items (Contains-lookup_entry (is_text t) es e h).1 in
      ap (λ k. k ∷ texts (remove_entry (is_text t) es)) (sym was) ∙ ap (λ ks. t ∷ ks) (texts_without es)

  -- a key that is promoted is the first one
  pub texts_promoted : (es : List (Vec ℕ Global × V)) → list_any (bytes_eq t) (texts es) ≡ true → texts (promoted (is_text t) es) ≡ t ∷ without t (texts es)
  texts_promoted es there = to_front es (lookup_entry (is_text t) es) refl (sym (any_found_entry es) ∙ there)

  put_on : (cap : ℕ) (es : List (Vec ℕ Global × V)) (key : Vec ℕ Global) (v : V) (o : Option (Vec ℕ Global × V)) → key.items ≡ t → is_some o ≡ false
      → texts (option_map_or (λ e. (e.0, v) ∷ remove_entry (is_text key.items) es) o ((key, v) ∷ take (cap - 1) es)) ≡ t ∷ take (cap - 1) (texts es)
  put_on cap es key v None same_key absent = ap (λ k. k ∷ texts (take (cap - 1) es)) same_key ∙ ap (λ ks. t ∷ ks) (sym (take-map (λ e. e.0.items) (cap - 1) es))
  put_on cap es key v (Some e) same_key absent = cc

  -- entries with a number of hits, as contracts see them
  abbrev pub seen : LruCache (Vec ℕ Global) V → ℕ → Cache
  seen c hits = cache c.cap (texts c.entries) hits

  -- a hit is counted, and its key is promoted
  pub hit_seen : (old new : LruCache (Vec ℕ Global) V) (hits more : ℕ) (bytes : List ℕ) (before : Cache) → bytes ≡ t → new ≡ lru_cache (promoted (is_text bytes) old.entries) old.cap → more ≡ raised hits → seen old hits ≡ before → is_key t before ≡ true → seen new more ≡ hit t before
  hit_seen old new hits more bytes before same_bytes moved counted view there =
      let key : list_any (bytes_eq t) (texts old.entries) ≡ true = ap (λ (c : Cache). is_key t c) view ∙ there in
      ap (λ (c : LruCache (Vec ℕ Global) V). seen c more) moved
      ∙ ap (λ (bs : List ℕ). cache old.cap (texts (promoted (is_text bs) old.entries)) more) same_bytes
      ∙ ap (λ (ks : List (List ℕ)). cache old.cap ks more) (texts_promoted old.entries key)
      ∙ ap (λ (n : ℕ). cache old.cap (t ∷ without t (texts old.entries)) n) counted
      ∙ ap (λ (c : Cache). hit t c) view

  -- a key that is put and wasn't there is the first one, and the last one of a full cache goes
  pub texts_put : (c : LruCache (Vec ℕ Global) V) (key : Vec ℕ Global) (v : V) → key.items ≡ t → list_any (bytes_eq t) (texts c.entries) ≡ false
      → texts (put_entries (λ a b. bytes_eq a.items b.items) c key v) ≡ t ∷ take (c.cap - 1) (texts c.entries)
  texts_put c key v same_key absent =
      put_on c.cap c.entries key v (lookup_entry (is_text key.items) c.entries) same_key
      (subst (λ s. is_some (lookup_entry (is_text s) c.entries) ≡ false) (sym same_key) (sym (any_found_entry c.entries) ∙ absent))

  -- a text that was no key is put
  pub added_seen : (old new : LruCache (Vec ℕ Global) V) (hits : ℕ) (key : Vec ℕ Global) (v : V) (before : Cache) → key.items ≡ t → new ≡ lru_cache (put_entries (λ a b. bytes_eq a.items b.items) old key v) old.cap → seen old hits ≡ before → is_key t before ≡ false → seen new hits ≡ added t before
  added_seen old new hits key v before same_key put view absent =
      let none : list_any (bytes_eq t) (texts old.entries) ≡ false = ap (λ (c : Cache). is_key t c) view ∙ absent in
      ap (λ (c : LruCache (Vec ℕ Global) V). seen c hits) put
      ∙ ap (λ (ks : List (List ℕ)). cache old.cap ks hits) (texts_put old key v same_key none)
      ∙ ap (λ (c : Cache). added t c) view

  -- what a look-up says of the keys
  pub key_found : (old : LruCache (Vec ℕ Global) V) (hits : ℕ) (bytes : List ℕ) (found : Option V) (before : Cache) → bytes ≡ t → found ≡ lookup (is_text bytes) old.entries → seen old hits ≡ before → is_key t before ≡ is_some found
  key_found old hits bytes found before same_bytes is view =
      sym (ap (λ (c : Cache). is_key t c) view)
      ∙ any_found old.entries
      ∙ ap (λ (bs : List ℕ). is_some (lookup (is_text bs) old.entries)) (sym same_bytes)
      ∙ ap (λ (o : Option V). is_some o) (sym is)

module _ {V : Type 0} (script : V → Script) where
  pub none_read : AreRead script []
  none_read entry h = absurd (Contains-nil entry h)

  pub promoted_read : (t : List ℕ) (es : List (Vec ℕ Global × V)) → AreRead script es → AreRead script (promoted (is_text t) es)
  promoted_read t es all entry h = all entry (Contains-promoted (is_text t) es entry h)

  pub put_read : (c : LruCache (Vec ℕ Global) V) (key : Vec ℕ Global) (v : V) → AreRead script c.entries → reading key.items ≡ done (script_of (script v)) []
      → AreRead script (put_entries (λ a b. bytes_eq a.items b.items) c key v)
  put_read c key v all read entry h = elim (Contains-put_entries (λ a b. bytes_eq a.items b.items) c key v entry h) [
    | inl was ↦ all entry was
    | inr put ↦ elim put.1 [
      | inl k ↦ subst (λ w. reading entry.0.items ≡ done (script_of (script w)) []) (sym put.0) (subst (λ (j : Vec ℕ Global). reading j.items ≡ done (script_of (script v)) []) (sym k) read)
      | inr old ↦ subst (λ w. reading entry.0.items ≡ done (script_of (script w)) []) (sym put.0) (subst (λ bs. reading bs ≡ done (script_of (script v)) []) (same key.items entry.0.items old.2) read)
    ]
  ]

  -- a script that a look-up finds is that of the text
  pub found_read : (t : List ℕ) (es : List (Vec ℕ Global × V)) (v : V) → AreRead script es → lookup (is_text t) es ≡ Some v → reading t ≡ done (script_of (script v)) []
  found_read t es v all h =
      let was = Contains-lookup (is_text t) es v h in
      subst (λ bs. reading bs ≡ done (script_of (script v)) []) (sym (same t was.0.items was.2)) (all (was.0, v) was.1)
