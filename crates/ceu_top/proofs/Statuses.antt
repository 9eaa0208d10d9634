-- A fact for one status, or for some.
use Rattle.std.proofs.Common.{◌≡◌, refl}
use Rattle.ceu_top.specs.Outcomes.{On, IsUnwritten}
use Rattle.ceu_top.specs.declared.status.Status.{Status}
use Rattle.ceu_top.specs.declared.status.Status.TheVariants.{Done, Refused, Words, Script, Fault, Read, Write, Memory, Absent, TooLong}

pub on_done : (status : Status) (P : Type 0) → (status ≡ Done → P) → On Done status P
on_done Done P f = f refl
on_done Refused P f = tt
on_done Words P f = tt
on_done Script P f = tt
on_done Fault P f = tt
on_done Read P f = tt
on_done Write P f = tt
on_done Memory P f = tt
on_done Absent P f = tt
on_done TooLong P f = tt

pub on_refused : (status : Status) (P : Type 0) → (status ≡ Refused → P) → On Refused status P
on_refused Done P f = tt
on_refused Refused P f = f refl
on_refused Words P f = tt
on_refused Script P f = tt
on_refused Fault P f = tt
on_refused Read P f = tt
on_refused Write P f = tt
on_refused Memory P f = tt
on_refused Absent P f = tt
on_refused TooLong P f = tt

pub on_script : (status : Status) (P : Type 0) → (status ≡ Script → P) → On Script status P
on_script Done P f = tt
on_script Refused P f = tt
on_script Words P f = tt
on_script Script P f = f refl
on_script Fault P f = tt
on_script Read P f = tt
on_script Write P f = tt
on_script Memory P f = tt
on_script Absent P f = tt
on_script TooLong P f = tt

pub on_fault : (status : Status) (P : Type 0) → (status ≡ Fault → P) → On Fault status P
on_fault Done P f = tt
on_fault Refused P f = tt
on_fault Words P f = tt
on_fault Script P f = tt
on_fault Fault P f = f refl
on_fault Read P f = tt
on_fault Write P f = tt
on_fault Memory P f = tt
on_fault Absent P f = tt
on_fault TooLong P f = tt

pub on_read : (status : Status) (P : Type 0) → (status ≡ Read → P) → On Read status P
on_read Done P f = tt
on_read Refused P f = tt
on_read Words P f = tt
on_read Script P f = tt
on_read Fault P f = tt
on_read Read P f = f refl
on_read Write P f = tt
on_read Memory P f = tt
on_read Absent P f = tt
on_read TooLong P f = tt

pub on_write : (status : Status) (P : Type 0) → (status ≡ Write → P) → On Write status P
on_write Done P f = tt
on_write Refused P f = tt
on_write Words P f = tt
on_write Script P f = tt
on_write Fault P f = tt
on_write Read P f = tt
on_write Write P f = f refl
on_write Memory P f = tt
on_write Absent P f = tt
on_write TooLong P f = tt

pub on_absent : (status : Status) (P : Type 0) → (status ≡ Absent → P) → On Absent status P
on_absent Done P f = tt
on_absent Refused P f = tt
on_absent Words P f = tt
on_absent Script P f = tt
on_absent Fault P f = tt
on_absent Read P f = tt
on_absent Write P f = tt
on_absent Memory P f = tt
on_absent Absent P f = f refl
on_absent TooLong P f = tt

pub on_too_long : (status : Status) (P : Type 0) → (status ≡ TooLong → P) → On TooLong status P
on_too_long Done P f = tt
on_too_long Refused P f = tt
on_too_long Words P f = tt
on_too_long Script P f = tt
on_too_long Fault P f = tt
on_too_long Read P f = tt
on_too_long Write P f = tt
on_too_long Memory P f = tt
on_too_long Absent P f = tt
on_too_long TooLong P f = f refl

pub unwritten_all : (status : Status) (P : Type 0) → P → IsUnwritten status P
unwritten_all Done P p = tt
unwritten_all Refused P p = tt
unwritten_all Words P p = p
unwritten_all Script P p = tt
unwritten_all Fault P p = tt
unwritten_all Read P p = tt
unwritten_all Write P p = tt
unwritten_all Memory P p = p
unwritten_all Absent P p = p
unwritten_all TooLong P p = p
