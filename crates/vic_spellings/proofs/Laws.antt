-- The laws of both kinds of message, from what is found and what is read again.
use Rattle.std.proofs.Common.{◌≡◌, ℕ, List, Option, Some, None, refl, sym, ap, ◌∙◌}
use Rattle.vic_dict.specs.Lists.{AreBytes}
use Rattle.vic_wire.specs.declared.message.ToClient.{ToClient}
use Rattle.vic_wire.specs.declared.message.ToServer.{ToServer}
use Rattle.vic_wire.specs.Messages.{answer_text, HasSpelling, request_text, HasRequestSpelling}
use Rattle.vic_wire.specs.Reading.{read_answer, read_request}
use Rattle.vic_spellings.specs.Spellings.{AnswersAreSpelled, RequestsAreSpelled}
use Rattle.vic_spellings.proofs.SpelledAnswers.{answer_takes, answer_holds_bytes, answer_again}
use Rattle.vic_spellings.proofs.SpelledRequests.{request_takes, request_holds_bytes, request_again}
use Rattle.vic_spellings.proofs.Holding.{answer-bytes, request-bytes}

some_is : {A : Type 0} (x y : A) → Some x ≡ Some y → x ≡ y
some_is x y e = cc

none_is : {A : Type 0} (r : Option A) (x : A) → r ≡ None → r ≡ Some x → ⊥
none_is r x e f = cc

-- nothing was found where nothing can have been
none_from : {A : Type 0} (r : Option A) → ((x : A) → r ≡ Some x → ⊥) → r ≡ None
none_from None h = refl
none_from (Some x) h = absurd (h x refl)

-- ---- answers

pub answer_not_read : (bytes : List ℕ) → read_answer bytes ≡ None → (m : ToClient) → HasSpelling m → bytes ≡ answer_text m → ⊥
answer_not_read bytes e m fits is = none_is (read_answer bytes) m e (ap read_answer is ∙ answer_again m fits)

pub answer_unspelled : (bytes : List ℕ) → AreBytes bytes → ((m : ToClient) → HasSpelling m → bytes ≡ answer_text m → ⊥) → read_answer bytes ≡ None
answer_unspelled bytes fits h = none_from (read_answer bytes) (λ m e. let t = answer_takes bytes m fits e in h m t.0 t.1)

pub same_answer : (m n : ToClient) → HasSpelling m → HasSpelling n → answer_text m ≡ answer_text n → m ≡ n
same_answer m n f g e = some_is m n (sym (answer_again m f) ∙ ap read_answer e ∙ answer_again n g)

pub answers_are_spelled : AnswersAreSpelled
answers_are_spelled = record {
  found = λ bytes m fits e. let t = answer_takes bytes m fits e in (t.0, t.1);
  again = answer_again;
  none = λ bytes fits. (answer_not_read bytes, answer_unspelled bytes fits);
  once = same_answer;
  in_bytes = λ m fits. ((λ h. answer_holds_bytes (answer_text m) m h (answer_again m fits)), (λ h. answer-bytes m fits h));
}

-- ---- requests

pub request_not_read : (bytes : List ℕ) → read_request bytes ≡ None → (m : ToServer) → HasRequestSpelling m → bytes ≡ request_text m → ⊥
request_not_read bytes e m fits is = none_is (read_request bytes) m e (ap read_request is ∙ request_again m fits)

pub request_unspelled : (bytes : List ℕ) → AreBytes bytes → ((m : ToServer) → HasRequestSpelling m → bytes ≡ request_text m → ⊥) → read_request bytes ≡ None
request_unspelled bytes fits h = none_from (read_request bytes) (λ m e. let t = request_takes bytes m fits e in h m t.0 t.1)

pub same_request : (m n : ToServer) → HasRequestSpelling m → HasRequestSpelling n → request_text m ≡ request_text n → m ≡ n
same_request m n f g e = some_is m n (sym (request_again m f) ∙ ap read_request e ∙ request_again n g)

pub requests_are_spelled : RequestsAreSpelled
requests_are_spelled = record {
  found = λ bytes m fits e. let t = request_takes bytes m fits e in (t.0, t.1);
  again = request_again;
  none = λ bytes fits. (request_not_read bytes, request_unspelled bytes fits);
  once = same_request;
  in_bytes = λ m fits. ((λ h. request_holds_bytes (request_text m) m h (request_again m fits)), (λ h. request-bytes m fits h));
}
