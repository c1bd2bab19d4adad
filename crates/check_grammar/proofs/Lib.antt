mod Lists
mod NameLemmas
mod Plain
