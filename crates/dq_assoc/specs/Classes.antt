-- The SOP classes that are served (PS3.4 annexes A, B, C, F and K; UIDs of PS3.6 annex A), and what
-- serves them.
use Rattle.std.specs.Prelude.{ℕ, List, [], ◌∷◌, codes, Option, find}
use Rattle.std.specs.Str.{bytes_eq}
use Rattle.dq_assoc.specs.declared.classes.Service.{Service}
use Rattle.dq_assoc.specs.declared.classes.Service.TheVariants as service
use Rattle.dq_assoc.specs.declared.classes.SopClass.{SopClass}
use Rattle.dq_assoc.specs.declared.classes.SopClass.TheVariants as sop

-- the UID of a class
abbrev pub uid_of : SopClass → List ℕ
uid_of sop.Verification = codes "1.2.840.10008.1.1"
uid_of sop.ComputedRadiographyImageStorage = codes "1.2.840.10008.5.1.4.1.1.1"
uid_of sop.CtImageStorage = codes "1.2.840.10008.5.1.4.1.1.2"
uid_of sop.MrImageStorage = codes "1.2.840.10008.5.1.4.1.1.4"
uid_of sop.UltrasoundImageStorage = codes "1.2.840.10008.5.1.4.1.1.6.1"
uid_of sop.SecondaryCaptureImageStorage = codes "1.2.840.10008.5.1.4.1.1.7"
uid_of sop.StudyRootFind = codes "1.2.840.10008.5.1.4.1.2.2.1"
uid_of sop.ModalityWorklistFind = codes "1.2.840.10008.5.1.4.31"
uid_of sop.ModalityPerformedProcedureStep = codes "1.2.840.10008.3.1.2.3.3"

abbrev pub served_classes : List SopClass
served_classes =
    sop.Verification ∷ sop.ComputedRadiographyImageStorage ∷ sop.CtImageStorage
    ∷ sop.MrImageStorage ∷ sop.UltrasoundImageStorage ∷ sop.SecondaryCaptureImageStorage
    ∷ sop.StudyRootFind ∷ sop.ModalityWorklistFind ∷ sop.ModalityPerformedProcedureStep ∷ []

-- the class that is served with the UID
unfoldable pub class_of : List ℕ → Option SopClass
class_of uid = find (λ (class : SopClass). bytes_eq (uid_of class) uid) served_classes

-- what serves a class
abbrev pub service_of : SopClass → Service
service_of sop.Verification = service.Verification
service_of sop.ComputedRadiographyImageStorage = service.Storage
service_of sop.CtImageStorage = service.Storage
service_of sop.MrImageStorage = service.Storage
service_of sop.UltrasoundImageStorage = service.Storage
service_of sop.SecondaryCaptureImageStorage = service.Storage
service_of sop.StudyRootFind = service.StudyRootFind
service_of sop.ModalityWorklistFind = service.WorklistFind
service_of sop.ModalityPerformedProcedureStep = service.PerformedProcedureStep
