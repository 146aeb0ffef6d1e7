-- Proves what holds of a request that asks for something: its path, sender, method, size and fields.
use Rattle.std.proofs.Common.{◌≡◌, ◌≤◌, ◌⊎◌, inl, inr, ⊎_elim, ℕ, Bool, true, false, List, length}
use Rattle.std.proofs.Common.{Result, Ok, Err, refl, sym, subst, arith, rules}
use Rattle.std.specs.Prelude.{◌==◌, not, nat_lt, if◌then◌else◌, bytes_eq, codes}
use Rattle.std.proofs.lemmas.Bool.Decides.{nat_tests}
use Rattle.std.proofs.lemmas.Slice.Eq.{bytes_eq-Decides}
use Rattle.ill_browser.specs.declared.fault.VisitFault.{VisitFault}
use Rattle.ill_browser.specs.declared.fault.VisitFault.TheVariants as refusals
use Rattle.ill_browser.specs.Fields.{fields_in}
use Rattle.ill_browser.specs.Visit.{RulesShown, VisitShown, body_size, decimal_value, form_size, has_user, is_form, is_look}
use Rattle.ill_browser.specs.Visit.{is_numeral, is_own, is_post, is_root, size_said}
use Rattle.ill_browser.specs.Wanted.{Asked, asked_by, asked_with, asked_by_query, asked_by_form, wanted_of}

-- ---- choices

-- If a choice that refuses unless `test` is true gives `Ok x`, `test` is true and `next` is `Ok x`. The refusal is
-- first here.
pub passed_unless : {X : Type 0} (test : Bool) (refusal : VisitFault) (next : Result X VisitFault) (x : X)
    → (if not test then Err refusal else next) ≡ Ok x → (test ≡ true) × (next ≡ Ok x)
passed_unless true refusal next x e = (refl, e)
passed_unless false refusal next x e = search rules

-- If a choice that refuses unless `test` is true gives `Ok x`, `test` is true and `next` is `Ok x`. The refusal is last
-- here.
pub passed_if : {X : Type 0} (test : Bool) (refusal : VisitFault) (next : Result X VisitFault) (x : X)
    → (if test then next else Err refusal) ≡ Ok x → (test ≡ true) × (next ≡ Ok x)
passed_if true refusal next x e = (refl, e)
passed_if false refusal next x e = search rules

-- If a choice that refuses if `test` is true gives `Ok x`, `test` is false and `next` is `Ok x`.
pub passed_not : {X : Type 0} (test : Bool) (refusal : VisitFault) (next : Result X VisitFault) (x : X)
    → (if test then Err refusal else next) ≡ Ok x → (test ≡ false) × (next ≡ Ok x)
passed_not true refusal next x e = search rules
passed_not false refusal next x e = (refl, e)

-- ---- sizes

-- If a size above `most` is refused, and `said` is the size, `said` is at most `most`.
within : (most size said : ℕ) → (if nat_lt most size then Err refusals.TooLong else Ok size) ≡ Ok said → said ≤ most
within most size said e =
    let passed = passed_not (nat_lt most size) refusals.TooLong (Ok size) said e in
    let same : size ≡ said = search (rules, passed.1) in
    let few : nat_lt most size ≡ false = passed.0 in
    grind (arith, nat_tests, few, same)

-- If `text` says `size` and is not refused, `size` is at most 4,096.
said_few : (text : List ℕ) (size : ℕ) → size_said text ≡ Ok size → size ≤ 4096
said_few text size e =
    let digits = passed_unless (is_numeral text) refusals.NoLength _ size e in
    let short = passed_not (nat_lt 4 (length text)) refusals.TooLong _ size digits.1 in
    within 4096 (decimal_value text) size short.1

-- What holds of a form that is not refused before its body is read.
record IsFitForm (rules : RulesShown) (v : VisitShown) (size : ℕ) : Type 0 where
  own : is_own rules v ≡ true
  user : has_user rules v ≡ true
  form : is_form v ≡ true
  few : size ≤ 4096

-- If `form_size` gives a size, the form is not refused before its body is read (`IsFitForm`).
form_is_fit : (rules : RulesShown) (v : VisitShown) (size : ℕ) → form_size rules v ≡ Ok size → IsFitForm rules v size
form_is_fit rules v size e =
    let own = passed_unless (is_own rules v) refusals.Foreign _ size e in
    let user = passed_unless (has_user rules v) refusals.NoUser _ size own.1 in
    let form = passed_unless (is_form v) refusals.NoForm _ size user.1 in
    record { own = own.0; user = user.0; form = form.0; few = said_few v.content_length size form.1 }

-- If the method is POST, it is not GET.
no_look : (method : List ℕ) → bytes_eq method (codes "POST") ≡ true → bytes_eq method (codes "GET") ≡ false
no_look method post =
    let is = (bytes_eq-Decides method (codes "POST")).0 post in
    subst (λ m. bytes_eq m (codes "GET") ≡ false) (sym is) refl

-- If a request is no look and sends a form, the size of its body is that of the form.
size_of_post : (look post : Bool) (form : Result ℕ VisitFault) (size : ℕ) → look ≡ false → post ≡ true
    → (if look then Ok 0 else if post then form else Err refusals.Method) ≡ Ok size → form ≡ Ok size
size_of_post false true form size not_look is_post e = e
size_of_post true post form size not_look is_post e = search rules
size_of_post false false form size not_look is_post e = search rules

-- If a request has a size, it is a look and the size is 0, or `form` gives the size.
size_of_look_or_form : (look post : Bool) (form : Result ℕ VisitFault) (size : ℕ)
    → (if look then Ok 0 else if post then form else Err refusals.Method) ≡ Ok size
    → ((look ≡ true) × (size ≡ 0)) ⊎ ((look ≡ false) × ((post ≡ true) × (form ≡ Ok size)))
size_of_look_or_form true post form size e = inl (refl, search rules)
size_of_look_or_form false true form size e = inr (refl, (refl, e))
size_of_look_or_form false false form size e = search rules

-- If `==` finds two numbers equal, they are equal.
same_length : (n size : ℕ) → (n == size) ≡ true → n ≡ size
same_length n size e = grind (arith, nat_tests, e)

-- A request that asks for `asked` has a whole body, and its fields ask for it.
pub record AsksWhole (rules : RulesShown) (v : VisitShown) (body : List ℕ) (asked : Asked) : Type 0 where
  pub size : ℕ
  pub sized : body_size rules v ≡ Ok size
  pub full : length body ≡ size
  pub by : asked_by v body ≡ Ok asked

-- If `asked_with sized` gives `Ok asked`, `sized` is a size, `body` has it, and the fields ask for `asked`.
asked_whole : (sized : Result ℕ VisitFault) (v : VisitShown) (body : List ℕ) (asked : Asked) → asked_with sized v body ≡ Ok asked
    → (size : ℕ) × ((sized ≡ Ok size) × ((length body ≡ size) × (asked_by v body ≡ Ok asked)))
asked_whole (Ok size) v body asked e =
    let passed = passed_if (length body == size) refusals.Cut (asked_by v body) asked e in
    (size, (refl, (same_length (length body) size passed.0, passed.1)))
asked_whole (Err refusal) v body asked e = search rules

-- If a request asks for `asked`, its body is whole, and its fields ask for `asked` (`AsksWhole`).
pub asks_whole : (rules : RulesShown) (v : VisitShown) (body : List ℕ) (asked : Asked) → wanted_of rules v body ≡ Ok asked
    → AsksWhole rules v body asked
asks_whole rules v body asked e =
    let whole = asked_whole (body_size rules v) v body asked e in
    record { size = whole.0; sized = whole.1.0; full = whole.1.1.0; by = whole.1.1.1 }

-- A form that asks for `asked` is of a page of this program, is short, and has no query. Its fields ask for `asked`.
pub record AsksByForm (rules : RulesShown) (v : VisitShown) (body : List ℕ) (asked : Asked) : Type 0 where
  pub root : is_root v.path ≡ true
  pub own : is_own rules v ≡ true
  pub user : has_user rules v ≡ true
  pub form : is_form v ≡ true
  pub few : length body ≤ 4096
  pub no_query : (length v.query == 0) ≡ true
  pub posts : asked_by_form (fields_in body) ≡ Ok asked

-- If a request is no look and gives `Ok asked`, it has no query, and `posted` is `Ok asked`.
by_form_if : (look : Bool) (looked posted : Result Asked VisitFault) (no_query : Bool) (asked : Asked) → look ≡ false
    → (if look then looked else if no_query then posted else Err refusals.Fields) ≡ Ok asked
    → (no_query ≡ true) × (posted ≡ Ok asked)
by_form_if false looked posted no_query asked not_look e = passed_if no_query refusals.Fields posted asked e
by_form_if true looked posted no_query asked not_look e = search rules

-- If `v` is no look and its fields ask for `asked`, it has no query, and its body asks.
by_form : (v : VisitShown) (body : List ℕ) (asked : Asked) → is_look v ≡ false → asked_by v body ≡ Ok asked
    → ((length v.query == 0) ≡ true) × (asked_by_form (fields_in body) ≡ Ok asked)
unfolding asked_by
by_form v body asked not_look e =
    by_form_if (is_look v) (asked_by_query (fields_in v.query)) (asked_by_form (fields_in body)) (length v.query == 0) asked
    not_look e

-- If a request is a look and gives `Ok asked`, `looked` is `Ok asked`.
by_query_if : (look : Bool) (looked other : Result Asked VisitFault) (asked : Asked) → look ≡ true
    → (if look then looked else other) ≡ Ok asked → looked ≡ Ok asked
by_query_if true looked other asked look e = e
by_query_if false looked other asked look e = search rules

-- If `v` is a look and its fields ask for `asked`, the fields of its query ask for it.
by_query : (v : VisitShown) (body : List ℕ) (asked : Asked) → is_look v ≡ true → asked_by v body ≡ Ok asked
    → asked_by_query (fields_in v.query) ≡ Ok asked
unfolding asked_by
by_query v body asked look e = by_query_if (is_look v) (asked_by_query (fields_in v.query)) _ asked look e

-- If a request sends a form and asks for `asked`, it is a form as `AsksByForm` says.
pub asks_by_form : (rules : RulesShown) (v : VisitShown) (body : List ℕ) (asked : Asked) → is_post v ≡ true
    → wanted_of rules v body ≡ Ok asked → AsksByForm rules v body asked
asks_by_form rules v body asked post e =
    let whole = asks_whole rules v body asked e in
    let not_look = no_look v.method post in
    let root = passed_unless (is_root v.path) refusals.NoPage _ whole.size whole.sized in
    let fit = form_is_fit rules v whole.size
    (size_of_post (is_look v) (is_post v) (form_size rules v) whole.size not_look post root.1) in
    let posted = by_form v body asked not_look whole.by in
    let few : length body ≤ 4096 = subst (λ size. size ≤ 4096) (sym whole.full) fit.few in
    record {
      root = root.0;
      own = fit.own;
      user = fit.user;
      form = fit.form;
      few = few;
      no_query = posted.0;
      posts = posted.1;
    }

-- If `body_size` gives a size, it is at most 4,096.
pub sized_few : (rules : RulesShown) (v : VisitShown) (size : ℕ) → body_size rules v ≡ Ok size → size ≤ 4096
sized_few rules v size e =
    let root = passed_unless (is_root v.path) refusals.NoPage _ size e in
    ⊎_elim
    (λ look. subst (λ size. size ≤ 4096) (sym look.1) (omega arith))
    (λ post. (form_is_fit rules v size post.1.1).few)
    (size_of_look_or_form (is_look v) (is_post v) (form_size rules v) size root.1)

-- If a request asks for something, its body has at most 4,096 bytes.
pub asks_few : (rules : RulesShown) (v : VisitShown) (body : List ℕ) (asked : Asked) → wanted_of rules v body ≡ Ok asked
    → length body ≤ 4096
asks_few rules v body asked e =
    let whole = asks_whole rules v body asked e in
    subst (λ size. size ≤ 4096) (sym whole.full) (sized_few rules v whole.size whole.sized)

-- If a request looks at a page and asks for `asked`, the fields of its query ask for it.
pub asks_by_query : (rules : RulesShown) (v : VisitShown) (body : List ℕ) (asked : Asked) → is_look v ≡ true
    → wanted_of rules v body ≡ Ok asked → asked_by_query (fields_in v.query) ≡ Ok asked
asks_by_query rules v body asked look e = by_query v body asked look (asks_whole rules v body asked e).by

-- If a request asks for something, its method is GET or POST.
pub look_or_post : (rules : RulesShown) (v : VisitShown) (body : List ℕ) (asked : Asked) → wanted_of rules v body ≡ Ok asked
    → (is_look v ≡ true) ⊎ (is_post v ≡ true)
look_or_post rules v body asked e =
    let whole = asks_whole rules v body asked e in
    let root = passed_unless (is_root v.path) refusals.NoPage _ whole.size whole.sized in
    ⊎_elim (λ look. inl look.0) (λ post. inr post.1.0)
    (size_of_look_or_form (is_look v) (is_post v) (form_size rules v) whole.size root.1)
