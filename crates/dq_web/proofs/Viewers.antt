-- What pages of the viewer's origin ask.
use Rattle.std.proofs.Common.{Bool, true, false, refl, List, ℕ, ◌⊎◌, inl, inr, option_copied}
use Rattle.std.specs.Prelude.{◌&&◌, ◌||◌, if◌then◌else◌, IsTrue}
use Rattle.dq_request.specs.declared.request.Request.{Request}
use Rattle.dq_web.specs.declared.cutting.BodyForm.{BodyForm}
use Rattle.dq_web.specs.declared.cutting.Fields.{Fields}
use Rattle.dq_web.specs.declared.guard.Guard.{Guard}
use Rattle.dq_web.specs.declared.guard.Openness.{Openness}
use Rattle.dq_web.specs.declared.guard.Openness.TheVariants.{Closed, Tab, Viewer}
use Rattle.dq_web.specs.declared.aim.Method.{Method}
use Rattle.dq_web.specs.declared.aim.Method.TheVariants.{Get, Post, Delete, Preflight, Other}
use Rattle.dq_web.specs.declared.aim.Method.TheVariants as method
use Rattle.dq_web.specs.declared.resource.Resource.{Resource}
use Rattle.dq_web.specs.Guards.{is_to_viewer, is_to_tab, is_of_viewer, is_same_origin, is_allowed_site, may_send}
use Rattle.dq_web.specs.Aims.{is_page, is_searched, only_looks, openness_of}
use Rattle.dq_web.specs.ParsedRequests.{Asks, IsLook}
use Rattle.dq_web.proofs.Orders.{Looking-look}

opens-looks : (page searched looks : Bool)
    → IsTrue (is_to_viewer (if page then Tab else if searched && looks then Viewer else Closed)) → IsTrue looks
opens-looks true searched looks opens = cc
opens-looks false true true opens = refl
opens-looks false true false opens = cc
opens-looks false false looks opens = cc

-- what is open to them is only looked at
looks : (resource : Resource) (by : Method) → IsTrue (is_to_viewer (openness_of resource by)) → IsTrue (only_looks by)
looks resource by opens = opens-looks (is_page resource) (is_searched resource) (only_looks by) opens

looks-look : (verb : Method) (resource : Resource) (query : List ℕ) (by : BodyForm) (body : List ℕ) (request : Request)
    → IsTrue (only_looks verb) → Asks verb resource query by body request → IsLook request
looks-look Get resource query by body request looking asks = Looking-look resource query request asks
looks-look method.Head resource query by body request looking asks = Looking-look resource query request asks
looks-look Preflight resource query by body request looking asks = absurd asks
looks-look Post resource query by body request looking asks = cc
looks-look Delete resource query by body request looking asks = cc
looks-look Other resource query by body request looking asks = cc

pub opened-look : (verb : Method) (resource : Resource) (query : List ℕ) (by : BodyForm) (body : List ℕ) (request : Request)
    → IsTrue (is_to_viewer (openness_of resource verb)) → Asks verb resource query by body request → IsLook request
opened-look verb resource query by body request opens asks =
    looks-look verb resource query by body request (looks resource verb opens) asks

either : (a b c d : Bool) → IsTrue ((a && b) || (c && d)) → (IsTrue a × IsTrue b) ⊎ IsTrue c
either true true c d is = inl (refl, refl)
either true false true d is = inr refl
either true false false d is = cc
either false b true d is = inr refl
either false b false d is = cc

-- who may send a request is a page of the viewer's origin to which it is open, or one of the same host
pub sender : (guard : Guard) (host : List ℕ) (openness : Openness) (fields : Fields) → IsTrue (may_send guard host openness fields)
    → (IsTrue (is_to_viewer openness) × IsTrue (is_of_viewer guard.viewer (option_copied fields.origin)))
    ⊎ IsTrue (is_same_origin host (option_copied fields.origin))
sender guard host openness fields may =
    either (is_to_viewer openness) (is_of_viewer guard.viewer (option_copied fields.origin))
    (is_same_origin host (option_copied fields.origin)) (is_allowed_site (is_to_tab openness) fields) may
