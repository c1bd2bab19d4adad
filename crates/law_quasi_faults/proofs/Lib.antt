mod Lists
mod Quotes
mod Syntaxes
